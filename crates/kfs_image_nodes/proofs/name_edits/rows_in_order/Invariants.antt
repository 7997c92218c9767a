use Rattle.std.proofs.Common.{◌≡◌, ◌++◌, All, drop, map}
use Rattle.kfs_model.specs.Spelling.{IsName}
use Rattle.kfs_model.specs.Tree.{name_order}
use Rattle.kfs_maps.specs.Chunks.Edits.{KeysAscend}
use Rattle.kfs_image_nodes.specs.Lent.{rows_in}
use Rattle.kfs_image_nodes.specs.NameEdits.{name_edit}
use Rattle.kfs_image_nodes.proofs.name_edits.rows_in_order.Given as goal

-- the edits made, and those of the rows that are left, are those of all rows
abbrev pub invariant-loop-index : goal.invariant-loop-index
invariant-loop-index g l = record {
  made : l.edits.items ++ map name_edit (drop l.index (rows_in l.rows)) ≡ map name_edit (rows_in l.rows);
  ascend : KeysAscend name_order.compare l.edits.items;
  named : All (λ e. IsName e.key.1) l.edits.items;
}
