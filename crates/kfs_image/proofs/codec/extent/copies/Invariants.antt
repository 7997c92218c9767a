use Rattle.std.proofs.Common.{◌≡◌, map, take}
use Rattle.kfs_image.specs.Codec.Extents.{extent_in}
use Rattle.kfs_image.specs.Codec.RawImages.{extent_row_of}
use Rattle.kfs_image.proofs.codec.extent.copies.Given as goal

abbrev pub invariant-loop-row : goal.invariant-loop-row
invariant-loop-row g l = map extent_row_of l.copies.items ≡ map (extent_in l.source) (take l.row-index l.rows)
