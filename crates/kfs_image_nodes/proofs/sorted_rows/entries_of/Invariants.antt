use Rattle.std.proofs.Common.{◌≡◌, ◌++◌, drop}
use Rattle.kfs_image_nodes.specs.SortedRows.{name_entries}
use Rattle.kfs_image_nodes.proofs.sorted_rows.entries_of.Given as goal

abbrev pub invariant-loop-row : goal.invariant-loop-row
invariant-loop-row g l = l.made.items ++ name_entries (drop l.row-index l.rows) ≡ name_entries l.rows
