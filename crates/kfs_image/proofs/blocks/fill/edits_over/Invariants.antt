use Rattle.std.proofs.Common.{◌≡◌, drop}
use Rattle.kfs_image.specs.Blocks.Fill.{mapped_by}
use Rattle.kfs_image.specs.Blocks.Walks.{seen}
use Rattle.kfs_image.proofs.blocks.fill.edits_over.Given as goal

-- the rows that are left make of what is seen so far what all rows make
abbrev pub invariant-loop-row : goal.invariant-loop-row
invariant-loop-row g l = mapped_by (drop l.row-index l.rows) (seen l.overlay l.placement) ≡ mapped_by l.rows (seen l.fn.overlay l.placement)
