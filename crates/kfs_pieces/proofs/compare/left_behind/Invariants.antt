use Rattle.std.proofs.Common.{◌≡◌, map, length}
use Rattle.std.specs.List.{AllByRecursion}
use Rattle.kfs_types.specs.Views.{piece_of}
use Rattle.kfs_pieces.specs.PiecesApart.{behind_piece}
use Rattle.kfs_pieces.specs.Lefts.{PieceIsInRange}
use Rattle.kfs_pieces.specs.Rests.{rest_of}
use Rattle.kfs_pieces.proofs.compare.left_behind.Given as goal

abbrev pub invariant-loop-left : goal.invariant-loop-left
invariant-loop-left l = record {
  behind : behind_piece (piece_of l.wanted) (map piece_of (rest_of l.right l.left)) ≡ behind_piece (piece_of l.piece) (map piece_of (rest_of l.right l.fn.left));
  short : AllByRecursion PieceIsInRange (rest_of l.right l.left);
}

abbrev pub decreases-loop-left : goal.decreases-loop-left
decreases-loop-left l = length (rest_of l.right l.left)
