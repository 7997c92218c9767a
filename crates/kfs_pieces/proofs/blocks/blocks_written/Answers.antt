use Rattle.std.proofs.Common.{◌+◌, ◌++◌, sym, ap, ◌∙◌, map, drop, get_or}
use Rattle.kfs_types.specs.declared.plan.Piece.{Piece}
use Rattle.kfs_types.specs.declared.plan.Source.TheVariants as sources
use Rattle.kfs_types.specs.Views.{piece_of}
use Rattle.kfs_pieces.specs.TouchedBlocks.{counted, touches}
use Rattle.kfs_pieces.specs.PieceBlocks.{piece_blocks, zeros_until}
use Rattle.kfs_pieces.proofs.Counting.{touches_row, counted_rows}
use Rattle.kfs_pieces.proofs.blocks.blocks_written.Goals as goal

abbrev none : Piece
none = record { number = 0; start = 0; len = 0; source = sources.Zero }

pub loop-index-preserved : goal.loop-index-preserved
loop-index-preserved c = record {
  counts =
      ap (λ u. c.with_piece-count.result.total + counted c.with_piece-count.result.next (touches c.args.size u (map piece_of (drop (c.loop-index.index + 1) c.args.pieces.now)))) c.zeros_end-until.ensures
      ∙ c.with_piece-count.ensures.counts (touches c.args.size (zeros_until (piece_of (get_or c.args.pieces.now c.loop-index.index none))) (map piece_of (drop (c.loop-index.index + 1) c.args.pieces.now)))
      ∙ ap (λ g. c.loop-index.count.total + counted c.loop-index.count.next (piece_blocks c.args.size c.loop-index.until g (piece_of (get_or c.args.pieces.now c.loop-index.index none)) ++ touches c.args.size (zeros_until (piece_of (get_or c.args.pieces.now c.loop-index.index none))) (map piece_of (drop (c.loop-index.index + 1) c.args.pieces.now)))) c.goes_on_at-goes_on.ensures
      ∙ sym (ap (λ bs. c.loop-index.count.total + counted c.loop-index.count.next bs) (touches_row c.args.size c.loop-index.until c.args.pieces.now c.loop-index.index none c.loop-index-test.true))
      ∙ c.loop-index.invariant.counts;
  low = c.with_piece-count.ensures.low;
  near = c.with_piece-count.ensures.near;
}

pub returns-clause-counts : goal.returns-clause-counts
returns-clause-counts c = sym (counted_rows c.args.size c.loop-index.until c.loop-index.count.next c.loop-index.count.total c.args.pieces.now c.loop-index.index c.loop-index-test.false) ∙ c.loop-index.invariant.counts
