use Rattle.std.proofs.Common.{◌≡◌, ◌++◌, map, drop}
use Rattle.kfs_image.specs.Raw.Rows.{header_edit}
use Rattle.kfs_image.proofs.raw.contents.edits_of.Given as goal

abbrev pub invariant-loop-row : goal.invariant-loop-row
invariant-loop-row g l = l.edits.items ++ map header_edit (drop l.row-index l.rows) ≡ map header_edit l.rows
