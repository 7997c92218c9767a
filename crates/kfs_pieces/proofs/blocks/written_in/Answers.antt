use Rattle.std.proofs.Common.{◌+◌, ◌++◌, sym, ap, ◌∙◌, map, drop, get_or}
use Rattle.kfs_types.specs.declared.plan.Piece.{Piece}
use Rattle.kfs_types.specs.declared.plan.Source.TheVariants as sources
use Rattle.kfs_types.specs.Views.{piece_of}
use Rattle.kfs_pieces.specs.TouchedBlocks.{touches}
use Rattle.kfs_pieces.specs.BlockLists.{listed}
use Rattle.kfs_pieces.specs.PieceBlocks.{blocks_in, piece_blocks, zeros_until}
use Rattle.kfs_pieces.proofs.Counting.{touches_row}
use Rattle.kfs_pieces.proofs.ListedBlocks.{listed_both, listed_rows}
use Rattle.kfs_pieces.proofs.blocks.written_in.Goals as goal

abbrev none : Piece
none = record { number = 0; start = 0; len = 0; source = sources.Zero }

pub loop-index-preserved : goal.loop-index-preserved
loop-index-preserved g c =
    let old = c.loop-index.out.items in
    let next = c.loop-index.next in
    let size = c.args.size in
    let until = c.loop-index.until in
    let piece = piece_of (get_or c.args.pieces.now c.loop-index.index none) in
    let behind = map piece_of (drop (c.loop-index.index + 1) c.args.pieces.now) in
    let later = touches size (zeros_until piece) behind in
    let touched = c.touched_by-front.result in
    record {
      lists =
          ap (λ u. c.list_blocks-in-loop-index.new.out.items ++ listed c.in_ok-next-2.next (touches size u behind)) c.zeros_end-until.ensures
          ∙ listed_both old c.list_blocks.new.out.items _ next c.in_ok-next.next _ (blocks_in touched.0) (blocks_in touched.1) c.in_ok-next.ensures.lists c.in_ok-next-2.ensures.lists later
          ∙ ap (λ bs. old ++ listed next (bs ++ later)) c.touched_by-front.ensures
          ∙ ap (λ g. old ++ listed next (piece_blocks size until g piece ++ later)) c.goes_on_at-goes_on.ensures
          ∙ sym (ap (λ bs. old ++ listed next bs) (touches_row size until c.args.pieces.now c.loop-index.index none c.loop-index-test.true))
          ∙ c.loop-index.invariant.lists;
      near = c.in_ok-next-2.ensures.near;
    }

pub returns : goal.returns
returns g c = sym (listed_rows c.args.size c.loop-index.until c.loop-index.next c.loop-index.out.items c.args.pieces.now c.loop-index.index c.loop-index-test.false) ∙ c.loop-index.invariant.lists
