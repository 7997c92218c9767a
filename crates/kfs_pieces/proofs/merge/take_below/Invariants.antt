use Rattle.std.proofs.Common.{◌≡◌, ◌++◌, length}
use Rattle.kfs_pieces.specs.ByteRanges.{cut_below, cut_from}
use Rattle.kfs_pieces.specs.Rests.{rest_of}
use Rattle.kfs_pieces.proofs.merge.take_below.Given as goal

abbrev pub invariant-loop-left : goal.invariant-loop-left
invariant-loop-left g l = record {
  taken : l.out.items ++ cut_below l.number l.place (rest_of l.list l.left) ≡ l.fn.out.items ++ cut_below l.number l.place (rest_of l.list l.fn.rest);
  left : cut_from l.number l.place (rest_of l.list l.left) ≡ cut_from l.number l.place (rest_of l.list l.fn.rest);
}

abbrev pub decreases-loop-left : goal.decreases-loop-left
decreases-loop-left g l = length (rest_of l.list l.left)
