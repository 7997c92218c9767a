use Rattle.std.proofs.Common.{◌≡◌, ◌≤◌, ◌++◌, All, drop, map}
use Rattle.kfs_maps.specs.Pages.Edits.{AreEdits}
use Rattle.kfs_image_nodes.specs.NodeEdits.{node_edit}
use Rattle.kfs_image_nodes.proofs.edits.edits_in_order.Given as goal

-- the edits made, and those of the rows that are left, are those of all rows
abbrev pub invariant-loop-row : goal.invariant-loop-row
invariant-loop-row g l = record {
  made : l.edits.items ++ map node_edit (drop l.row-index l.nodes) ≡ map node_edit l.nodes;
  edits : AreEdits l.edits.items;
  below : All (λ e. e.number ≤ l.last) l.edits.items;
}
