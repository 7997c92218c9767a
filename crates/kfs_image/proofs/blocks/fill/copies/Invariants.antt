use Rattle.std.proofs.Common.{◌≡◌, ◌++◌, map, drop}
use Rattle.kfs_image.specs.Blocks.Fill.{new_part, row_part}
use Rattle.kfs_image.proofs.blocks.fill.copies.Given as goal

abbrev pub invariant-loop-row : goal.invariant-loop-row
invariant-loop-row g l = map new_part l.written.items ++ map row_part (drop l.row-index l.rows) ≡ map row_part l.rows
