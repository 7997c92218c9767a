-- So far no check fails, in any state that agrees, and the reads are of the cells of the checks.
use Rattle.std.proofs.Common.{◌≡◌, map, drop}
use Rattle.kfs_model.specs.Check.{first_failing, looked}
use Rattle.kfs_judge_reads.specs.Reads.{Always, IsPart, Within}
use Rattle.kfs_judge_reads.specs.Recorders.{GoesOn}
use Rattle.kfs_judge.specs.Check.Checks.{check_of, entry_context_in}
use Rattle.kfs_judge.proofs.check.entry_judge.EntryJudge.first_fault.Given as goal

abbrev pub invariant-loop-check : goal.invariant-loop-check
invariant-loop-check g l = record {
  goes : GoesOn l.initial.recorder l.recorder;
  passed : Always l.recorder.reads.entries (λ state. first_failing (entry_context_in l.self state) (map check_of l.checks) ≡ first_failing (entry_context_in l.self state) (map check_of (drop l.check-index l.checks)));
  left : Always l.recorder.reads.entries (λ state. IsPart (looked (entry_context_in l.self state) (map check_of (drop l.check-index l.checks))) (looked (entry_context_in l.self state) (map check_of l.checks)));
  among : Always l.recorder.reads.entries (λ state. Within l.initial.recorder.reads.entries l.recorder.reads.entries (looked (entry_context_in l.self state) (map check_of l.checks)));
}
