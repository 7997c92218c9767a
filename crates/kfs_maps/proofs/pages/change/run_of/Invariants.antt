use Rattle.std.proofs.Common.{◌≡◌, ℕ, ◌<◌, slice_index_or}
use Rattle.kfs_maps.specs.declared.pages.change.NumberEdit.{NumberEdit}
use Rattle.kfs_maps.specs.Pages.Edits.{page_of}
use Rattle.kfs_maps.proofs.pages.change.run_of.Given as goal

abbrev pub invariant-loop-edit : goal.invariant-loop-edit
invariant-loop-edit g l = record {
  run : l.run ≡ l.edit-index;
  mine : (k : ℕ) (d : NumberEdit _) → k < l.run → page_of (slice_index_or l.edits k d).number ≡ l.index;
}
