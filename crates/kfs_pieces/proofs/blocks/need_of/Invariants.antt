use Rattle.std.specs.List.{AllByRecursion}
use Rattle.std.proofs.Common.{length}
use Rattle.kfs_pieces.specs.Lefts.{IsFilled, PieceIsInRange}
use Rattle.kfs_pieces.proofs.FileParts.{Counts, IsLow}
use Rattle.kfs_pieces.proofs.blocks.need_of.Given as goal

abbrev pub invariant-loop-first : goal.invariant-loop-first
invariant-loop-first l = record {
  low : IsLow l.total l.rest;
  whole : AllByRecursion PieceIsInRange l.rest;
  filled : AllByRecursion IsFilled l.rest;
  counts : Counts l.sizes l.pieces l.total l.rest;
}

abbrev pub decreases-loop-first : goal.decreases-loop-first
decreases-loop-first l = length l.rest
