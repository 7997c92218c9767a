use Rattle.std.proofs.Common.{◌≡◌, map, drop}
use Rattle.std.specs.List.{AllByRecursion}
use Rattle.kfs_types.specs.Views.{piece_of}
use Rattle.kfs_pieces.specs.PiecesApart.{first_apart}
use Rattle.kfs_pieces.specs.Lefts.{PieceIsInRange}
use Rattle.kfs_pieces.specs.Rests.{rest_of}
use Rattle.kfs_pieces.proofs.compare.first_piece_apart.Given as goal

abbrev pub invariant-loop-index : goal.invariant-loop-index
invariant-loop-index l = record {
  apart : first_apart l.index (map piece_of (drop l.index l.pieces)) (map piece_of (rest_of l.right l.left)) ≡ first_apart 0 (map piece_of l.pieces) (map piece_of l.right);
  short : AllByRecursion PieceIsInRange (rest_of l.right l.left);
}
