use Rattle.std.proofs.Common.{◌≡◌, ◌++◌, length}
use Rattle.kfs_pieces.specs.Rests.{rest_of}
use Rattle.kfs_pieces.proofs.merge.take_all.Given as goal

abbrev pub invariant-loop-left : goal.invariant-loop-left
invariant-loop-left g l = l.out.items ++ rest_of l.list l.left ≡ l.fn.out.items ++ rest_of l.list l.fn.rest

abbrev pub decreases-loop-left : goal.decreases-loop-left
decreases-loop-left g l = length (rest_of l.list l.left)
