use Rattle.std.proofs.Common.{◌≡◌, ◌++◌, drop, map}
use Rattle.kfs_image_nodes.specs.SortedRows.{uplink_of}
use Rattle.kfs_image_nodes.proofs.sorted_rows.uplinks_of.Given as goal

abbrev pub invariant-loop-row : goal.invariant-loop-row
invariant-loop-row g l = l.made.items ++ map uplink_of (drop l.row-index l.rows) ≡ map uplink_of l.rows
