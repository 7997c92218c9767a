use Rattle.std.proofs.Common.{◌≡◌, ◌++◌, length}
use Rattle.kfs_image_nodes.specs.SortedRows.{name_entries}
use Rattle.kfs_image_nodes.proofs.sorted_rows.names_of.Given as goal

-- the entries listed, and those of the rows that are left, are those of all rows
abbrev pub invariant-loop-left : goal.invariant-loop-left
invariant-loop-left g l = l.list ++ name_entries l.left ≡ name_entries l.rows

abbrev pub decreases-loop-left : goal.decreases-loop-left
decreases-loop-left g l = length l.left
