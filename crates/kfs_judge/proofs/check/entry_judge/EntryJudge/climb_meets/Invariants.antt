-- So far the climb has not met the node, in any state that agrees, and the reads are of what it has passed.
use Rattle.std.proofs.Common.{◌≡◌}
use Rattle.kfs_model.specs.Sight.{climb_limit, climb_meets}
use Rattle.kfs_judge_reads.specs.Reads.{Always, IsPart, Within}
use Rattle.kfs_judge_reads.specs.Recorders.{GoesOn}
use Rattle.kfs_judge_reads.specs.Climbs.{climbed_cells}
use Rattle.kfs_judge.specs.Check.Checks.{parent_in, StopsAtMoved}
use Rattle.kfs_judge.proofs.check.entry_judge.EntryJudge.climb_meets.Given as goal

abbrev pub invariant-loop-left : goal.invariant-loop-left
invariant-loop-left g l = record {
  goes : GoesOn l.fn.recorder l.recorder;
  climb : Always l.recorder.reads.entries (λ state. climb_meets (parent_in l.self state) climb_limit l.node l.dir ≡ climb_meets (parent_in l.self state) l.left l.node l.current);
  part : Always l.recorder.reads.entries (λ state. IsPart (climbed_cells (parent_in l.self state) l.left l.current) (climbed_cells (parent_in l.self state) climb_limit l.dir));
  among : Always l.recorder.reads.entries (λ state. Within l.fn.recorder.reads.entries l.recorder.reads.entries (climbed_cells (parent_in l.self state) climb_limit l.dir));
  stops : StopsAtMoved l.self l.recorder;
}

abbrev pub decreases-loop-left : goal.decreases-loop-left
decreases-loop-left g l = l.left
