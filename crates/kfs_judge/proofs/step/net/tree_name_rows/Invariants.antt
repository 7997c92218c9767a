-- The rows so far, and those of the entries that are left, are the rows of all; each look was at a cell that the draft has.
use Rattle.std.proofs.Common.{◌≡◌, ◌++◌, List, nat_eq, map}
use Rattle.kfs_model.specs.Plan.{number_now}
use Rattle.kfs_model.specs.Sight.{Cell}
use Rattle.kfs_judge_reads.specs.Draft.Few.{entries_of}
use Rattle.kfs_judge_reads.specs.Draft.Overlay.{ChangesAreAmong}
use Rattle.kfs_judge_reads.specs.Reads.{Always, Within}
use Rattle.kfs_judge_reads.specs.Recorders.{GoesOn}
use Rattle.kfs_judge.specs.Step.Rows.{keyed_name_row}
use Rattle.kfs_judge.proofs.StepLemmas.ChangedRows.{changed_rows}
use Rattle.kfs_judge.proofs.step.net.tree_name_rows.Given as goal

abbrev pub invariant-loop-key : goal.invariant-loop-key
invariant-loop-key g l = record {
  ready : (goal.iterator-loop-key g).can_next l.key-iterator;
  finite : (goal.iterator-loop-key g).is_finite l.key-iterator;
  goes : GoesOn l.initial.recorder l.recorder;
  among : (among : List Cell) → ChangesAreAmong l.draft among → Within l.initial.recorder.reads.entries l.recorder.reads.entries among;
  rows : Always l.recorder.reads.entries (λ state. map keyed_name_row l.rows.items ++ changed_rows nat_eq number_now (λ key. state.sight.name key.0 key.1) l.key-iterator ≡ changed_rows nat_eq number_now (λ key. state.sight.name key.0 key.1) (entries_of l.draft.names));
}
