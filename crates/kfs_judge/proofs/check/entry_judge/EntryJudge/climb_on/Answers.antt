-- A way that is kept stops at each directory whose parent an entry has written.
use Rattle.std.proofs.Common.{[], ◌∷◌, ◌∙◌}
use Rattle.std.specs.Ordering.{nat_cmp}
use Rattle.std.specs.BTreeMap.{get}
use Rattle.kfs_model.specs.Sight.{ParentOf}
use Rattle.kfs_judge.specs.Check.Checks.{is_moved_in, parent_in}
use Rattle.kfs_judge_reads.proofs.Recording.{goes_nowhere, within_same}
use Rattle.kfs_judge_reads.proofs.Ways.{one_step, unwritten}
use Rattle.kfs_judge.proofs.check.entry_judge.EntryJudge.climb_on.Goals as goal

pub returns-then-way-left-clause-looks : goal.returns-then-way-left-clause-looks
returns-then-way-left-clause-looks g c = record {
  goes = goes_nowhere c.args.recorder.now;
  known = λ state agrees.
      c.way-way.ensures (is_moved_in c.args.self.now) c.requires.stops state agrees (parent_in c.args.self.now state)
      (λ n still. unwritten (get nat_cmp c.args.self.now.draft.now.parents.map n) (state.sight.parent n) still);
  among = within_same c.args.recorder.now.reads.entries (ParentOf c.args.from ∷ []);
}

pub returns-in-Some-clause-looks : goal.returns-in-Some-clause-looks
returns-in-Some-clause-looks g c = record {
  goes = c.in_ok-parent.ensures.looks.goes;
  known = λ state agrees. one_step (parent_in c.args.self.now state) c.args.node c.args.from c.in-Some.up c.requires.other (c.in_ok-parent.ensures.looks.known state agrees ∙ c.in-Some.is);
  among = c.in_ok-parent.ensures.looks.among;
}
