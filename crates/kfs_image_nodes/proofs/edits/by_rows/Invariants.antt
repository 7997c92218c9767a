use Rattle.std.proofs.Common.{◌≡◌, take}
use Rattle.kfs_image_nodes.specs.NodeEdits.{left_by}
use Rattle.kfs_image_nodes.proofs.edits.by_rows.Given as goal

abbrev pub invariant-loop-row : goal.invariant-loop-row
invariant-loop-row l = l.found ≡ left_by (take l.row-index l.rows) l.number l.fn.before
