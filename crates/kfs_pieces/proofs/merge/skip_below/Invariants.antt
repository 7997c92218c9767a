use Rattle.std.proofs.Common.{◌≡◌, length}
use Rattle.kfs_pieces.specs.ByteRanges.{cut_from}
use Rattle.kfs_pieces.specs.Rests.{rest_of}
use Rattle.kfs_pieces.proofs.merge.skip_below.Given as goal

abbrev pub invariant-loop-left : goal.invariant-loop-left
invariant-loop-left l = cut_from l.number l.place (rest_of l.list l.left) ≡ cut_from l.number l.place (rest_of l.list l.fn.rest)

abbrev pub decreases-loop-left : goal.decreases-loop-left
decreases-loop-left l = length (rest_of l.list l.left)
