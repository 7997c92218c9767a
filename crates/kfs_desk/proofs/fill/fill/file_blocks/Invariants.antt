use Rattle.std.specs.List.{AllByRecursion}
use Rattle.std.proofs.Common.{length, map}
use Rattle.kfs_types.specs.Views.{piece_of}
use Rattle.kfs_pieces.specs.Lefts.{IsFilled, PieceIsInRange}
use Rattle.kfs_image_nodes.specs.Change.{reheaded}
use Rattle.kfs_desk.specs.Fill.FillOf.{size_among}
use Rattle.kfs_desk.proofs.FillLemmas.FileBlocks.{AreInOrder, AreListed, AreZeroed}
use Rattle.kfs_desk.proofs.fill.fill.file_blocks.Given as goal

abbrev pub invariant-loop-first : goal.invariant-loop-first
invariant-loop-first g l = record {
  order : AreInOrder l.written.items l.rest;
  whole : AllByRecursion PieceIsInRange l.rest;
  filled : AllByRecursion IsFilled l.rest;
  written : AreListed (reheaded l.image.heads l.nodes) (map piece_of l.pieces) l.written.items l.rest;
  zero : AreZeroed (size_among (reheaded l.image.heads l.nodes)) (map piece_of l.pieces) l.zero.items l.rest;
}

abbrev pub decreases-loop-first : goal.decreases-loop-first
decreases-loop-first g l = length l.rest
