use Rattle.std.proofs.Common.{ℕ, ◌+◌, ◌≤◌, ◌<◌}
use Rattle.kfs_shape.specs.Counts.{count_at}
use Rattle.kfs_shape.specs.Places.{first_position}
use Rattle.kfs_image.specs.Codec.RawImages.{extent_row_of}
use Rattle.kfs_shape.proofs.places.is_alone.Given as goal

abbrev pub invariant-loop-index : goal.invariant-loop-index
invariant-loop-index g l =
    let first = first_position (extent_row_of l.row) in
    (n : ℕ) → first ≤ n → n < first + l.index → count_at l.uses n ≤ 1
