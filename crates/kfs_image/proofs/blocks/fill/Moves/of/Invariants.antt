use Rattle.std.proofs.Common.{◌≡◌, ◌++◌, drop}
use Rattle.kfs_model.specs.Table.{pairs, numbers}
use Rattle.kfs_maps.specs.Chunks.Tables.{table}
use Rattle.kfs_image.specs.Blocks.Moves.{given_by, taken_by}
use Rattle.kfs_image.proofs.blocks.fill.Moves.of.Given as goal

abbrev pub invariant-loop-edit : goal.invariant-loop-edit
invariant-loop-edit g l = record {
  given : l.given.items ++ given_by (table (pairs numbers numbers) l.placement) (drop l.edit-index l.edits) ≡ given_by (table (pairs numbers numbers) l.placement) l.edits;
  taken : l.taken.items ++ taken_by (table (pairs numbers numbers) l.placement) (drop l.edit-index l.edits) ≡ taken_by (table (pairs numbers numbers) l.placement) l.edits;
}
