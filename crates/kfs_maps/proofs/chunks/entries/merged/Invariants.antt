use Rattle.std.proofs.Common.{◌≡◌, ◌++◌, T, drop}
use Rattle.std.specs.FinMap.Entries.{is_sorted}
use Rattle.kfs_maps.specs.Chunks.Edits.{entered_all}
use Rattle.kfs_maps.proofs.chunks.entries.merged.Given as goal

abbrev pub invariant-loop-edit : goal.invariant-loop-edit
invariant-loop-edit g l = record {
  sorted : T (is_sorted g.K.Ord.cmp l.left);
  entered : l.merged.items ++ entered_all g.K.Ord.cmp l.left (drop l.edit-index l.edits) ≡ entered_all g.K.Ord.cmp l.entries l.edits;
}
