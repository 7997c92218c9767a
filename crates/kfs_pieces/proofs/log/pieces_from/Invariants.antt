use Rattle.std.proofs.Common.{◌≡◌, ◌++◌, map, drop}
use Rattle.std.specs.List.{AllByRecursion}
use Rattle.kfs_types.specs.Views.{piece_of}
use Rattle.kfs_pieces.specs.Lefts.{IsFilled, PieceIsInRange}
use Rattle.kfs_pieces.specs.Made.{pieces_made}
use Rattle.kfs_pieces.proofs.log.pieces_from.Given as goal

abbrev pub invariant-loop-range : goal.invariant-loop-range
invariant-loop-range g l = record {
  made : map piece_of l.out.items ++ pieces_made (drop l.range-index l.ranges) ≡ pieces_made l.ranges;
  whole : AllByRecursion PieceIsInRange l.out.items;
  filled : AllByRecursion IsFilled l.out.items;
}
