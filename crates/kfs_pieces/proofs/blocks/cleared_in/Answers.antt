use Rattle.std.proofs.Common.{◌+◌, ◌++◌, ◌≤◌, true, false, sym, ap, subst, ◌∙◌, map, drop, get_or, append_assoc}
use Rattle.kfs_model.specs.Limits.{size_limit}
use Rattle.kfs_model.specs.Plan.{end_of}
use Rattle.kfs_types.specs.declared.plan.Piece.{Piece}
use Rattle.kfs_types.specs.declared.plan.Source.TheVariants as sources
use Rattle.kfs_types.specs.Views.{piece_of}
use Rattle.kfs_pieces.specs.BlockLists.{blocks_between, cleared_from, zeros_start}
use Rattle.kfs_pieces.specs.Lefts.{PieceIsInRange}
use Rattle.kfs_pieces.proofs.Lists.{all_at}
use Rattle.kfs_pieces.proofs.ListedBlocks.{cleared_row, cleared_rows}
use Rattle.kfs_pieces.proofs.blocks.cleared_in.Goals as goal
use Rattle.kfs_pieces.proofs.blocks.cleared_in.Goals.{then-not-goes_on_at+in_ok-add_between, else-not-goes_on_at}

abbrev none : Piece
none = record { number = 0; start = 0; len = 0; source = sources.Zero }

pub loop-index-preserved : goal.loop-index-preserved
loop-index-preserved g c =
    let pieces = c.args.pieces.now in
    let size = c.args.size in
    let end = end_of (piece_of (get_or pieces c.loop-index.index none)) in
    let piece = piece_of (get_or pieces c.loop-index.index none) in
    let behind = map piece_of (drop (c.loop-index.index + 1) pieces) in
    let between = blocks_between size c.loop-index.start c.loop-index.end in
    let old = c.loop-index.out.items in
    let row = cleared_row size c.loop-index.start c.loop-index.end pieces c.loop-index.index none in
    record {
      lists = elim c.if-not-goes_on_at.branch [
        | then-not-goes_on_at+in_ok-add_between w ↦
            (λ i. (w.out-is i).items ++ cleared_from size ((w.start-is ∙ w.zeros_start-start.ensures.value) i) end behind)
            ∙ ap (λ xs. xs ++ cleared_from size (zeros_start piece) end behind) w.in_ok-add_between.ensures
            ∙ append_assoc old between (cleared_from size (zeros_start piece) end behind)
            ∙ ap (λ xs. old ++ xs) (sym (row false c.loop-index-test.true (sym c.goes_on_at.ensures ∙ w.if-not-goes_on_at.true)))
            ∙ c.loop-index.invariant.lists
        | else-not-goes_on_at w ↦
            (λ i. (w.out-is i).items ++ cleared_from size (w.start-is i) end behind)
            ∙ ap (λ xs. old ++ xs) (sym (row true c.loop-index-test.true (sym c.goes_on_at.ensures ∙ w.if-not-goes_on_at.false)))
            ∙ c.loop-index.invariant.lists
      ];
      begun = elim c.if-not-goes_on_at.branch [ then-not-goes_on_at+in_ok-add_between w ↦ subst (λ n. n ≤ size_limit) (sym w.start-is) w.zeros_start-start.ensures.small | else-not-goes_on_at w ↦ subst (λ n. n ≤ size_limit) (sym w.start-is) c.loop-index.invariant.begun ];
      ended = (all_at PieceIsInRange pieces c.loop-index.index none c.loop-index-test.true c.requires).start;
    }

pub returns : goal.returns
returns g c =
    c.in_ok-add_between-2.ensures
    ∙ ap (λ xs. c.loop-index.out.items ++ xs) (sym (cleared_rows c.args.size c.loop-index.start c.loop-index.end c.args.pieces.now c.loop-index.index c.loop-index-test.false))
    ∙ c.loop-index.invariant.lists
