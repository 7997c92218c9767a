use Rattle.std.proofs.Common.{◌≡◌, ◌++◌, drop, map}
use Rattle.kfs_model.specs.Table.{pairs, numbers}
use Rattle.kfs_maps.specs.Chunks.Edits.{KeysAscend}
use Rattle.kfs_image.specs.Blocks.Fill.{row_edit}
use Rattle.kfs_image.proofs.blocks.fill.rows_in_order.Given as goal

-- the edits made, and those of the rows that are left, are those of all rows
abbrev pub invariant-loop-row : goal.invariant-loop-row
invariant-loop-row g l = record {
  made : l.edits.items ++ map row_edit (drop l.row-index l.rows) ≡ map row_edit l.rows;
  ascend : KeysAscend (pairs numbers numbers).compare l.edits.items;
}
