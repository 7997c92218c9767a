-- The rows so far, and those of the entries that are left, are the rows of all; each look was at a cell that the draft has.
use Rattle.std.proofs.Common.{◌≡◌, ◌++◌, List, map}
use Rattle.kfs_model.specs.FirstWrong.{same_header}
use Rattle.kfs_model.specs.Plan.{header_now}
use Rattle.kfs_model.specs.Sight.{Cell}
use Rattle.kfs_judge_reads.specs.Draft.Few.{entries_of}
use Rattle.kfs_judge_reads.specs.Draft.Overlay.{ChangesAreAmong}
use Rattle.kfs_judge_reads.specs.Reads.{Always, Within}
use Rattle.kfs_judge_reads.specs.Recorders.{GoesOn}
use Rattle.kfs_judge.specs.Step.Rows.{keyed_node_row}
use Rattle.kfs_judge.proofs.StepLemmas.ChangedRows.{changed_rows, shown_heads}
use Rattle.kfs_judge.proofs.step.net.tree_node_rows.Given as goal

abbrev pub invariant-loop-number : goal.invariant-loop-number
invariant-loop-number g l = record {
  ready : (goal.iterator-loop-number g).can_next l.number-iterator;
  finite : (goal.iterator-loop-number g).is_finite l.number-iterator;
  goes : GoesOn l.initial.recorder l.recorder;
  among : (among : List Cell) → ChangesAreAmong l.draft among → Within l.initial.recorder.reads.entries l.recorder.reads.entries among;
  rows : Always l.recorder.reads.entries (λ state. map keyed_node_row l.rows.items ++ changed_rows same_header header_now state.sight.head (shown_heads l.number-iterator) ≡ changed_rows same_header header_now state.sight.head (shown_heads (entries_of l.draft.heads)));
}
