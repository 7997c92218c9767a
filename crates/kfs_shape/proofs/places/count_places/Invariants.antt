use Rattle.std.proofs.Common.{◌≡◌, ℕ, ◌+◌, ◌&&◌, nat_le, nat_lt, cond}
use Rattle.kfs_shape.specs.Counts.{count_at}
use Rattle.kfs_shape.specs.Places.{first_position}
use Rattle.kfs_image.specs.Codec.RawImages.{extent_row_of}
use Rattle.kfs_shape.proofs.places.count_places.Given as goal

abbrev pub invariant-loop-index : goal.invariant-loop-index
invariant-loop-index g l =
    let first = first_position (extent_row_of l.row) in
    (n : ℕ) → count_at l.uses n ≡ count_at l.fn.uses n + cond (nat_le first n && nat_lt n (first + l.index)) 1 0
