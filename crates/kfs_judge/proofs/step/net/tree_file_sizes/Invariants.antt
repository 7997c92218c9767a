-- The sizes so far, and those of the headers that are left, have the numbers of all; each look was at a cell that the draft has.
use Rattle.std.proofs.Common.{◌≡◌, ◌++◌, List, map}
use Rattle.std.specs.List.{AllByRecursion}
use Rattle.kfs_model.specs.Sight.{Cell}
use Rattle.kfs_judge_reads.specs.Draft.Few.{entries_of}
use Rattle.kfs_judge_reads.specs.Draft.Overlay.{ChangesAreAmong}
use Rattle.kfs_judge_reads.specs.Reads.{Always, Within}
use Rattle.kfs_judge_reads.specs.Recorders.{GoesOn}
use Rattle.kfs_judge.proofs.StepLemmas.FileSizes.{IsOwnSize, keys_left}
use Rattle.kfs_pieces.specs.declared.log.FileSize.{FileSize}
use Rattle.kfs_pieces.specs.Sizes.{IsSize}
use Rattle.kfs_judge.proofs.step.net.tree_file_sizes.Given as goal

abbrev pub invariant-loop-number : goal.invariant-loop-number
invariant-loop-number g l = record {
  ready : (goal.iterator-loop-number g).can_next l.number-iterator;
  finite : (goal.iterator-loop-number g).is_finite l.number-iterator;
  goes : GoesOn l.initial.recorder l.recorder;
  among : (among : List Cell) → ChangesAreAmong l.draft among → Within l.initial.recorder.reads.entries l.recorder.reads.entries among;
  numbers : map (λ (s : FileSize). s.number) l.sizes.items ++ keys_left l.number-iterator ≡ keys_left (entries_of l.draft.heads);
  own : Always l.recorder.reads.entries (λ state. AllByRecursion (IsOwnSize l.draft state.sight) l.sizes.items);
  short : AllByRecursion IsSize l.sizes.items;
}
