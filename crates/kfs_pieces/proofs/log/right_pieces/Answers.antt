use Rattle.std.proofs.Common.{◌≡◌, arith, length, sym, ap, ◌∙◌, subst, map}
use Rattle.kfs_types.specs.Views.{piece_of}
use Rattle.kfs_model.specs.Plan.{ArePieces}
use Rattle.kfs_model.proofs.Ends.{each_end}
use Rattle.kfs_pieces.specs.Made.{AreMade, pieces_made}
use Rattle.kfs_pieces.specs.ByteRanges.{last_origin}
use Rattle.std.proofs.lemmas.List.{length-map}
use Rattle.kfs_pieces.proofs.FewRanges.{as_many_pieces, few_by_edges}
use Rattle.kfs_pieces.proofs.Made.{laid_pieces_are_right}
use Rattle.kfs_pieces.proofs.log.right_pieces.Goals as goal

pub returns-clause-right : goal.returns-clause-right
returns-clause-right g c client before tree entries opens = each_end _ (λ after. AreMade tree entries after c.args.ranges.now → ArePieces after (map piece_of c.in_ok-out.out.items)) (λ after ran all.
    let items = c.as_slice.ensures.value in
    let pieces : map piece_of c.in_ok-out.out.items ≡ pieces_made c.in_ok-laid.laid.items = c.in_ok-out.ensures.made ∙ ap pieces_made items in
    subst (ArePieces after) (sym pieces)
    (laid_pieces_are_right client before tree entries after opens ran all.numbers all.grew c.in_ok-laid.laid.items c.in_ok-laid.ensures.order (c.in_ok-laid.ensures.fit c.requires.fit)
    (λ n p. c.in_ok-laid.ensures.says n p ∙ ap (λ xs. last_origin xs n p) all.are)))

pub returns-clause-few : goal.returns-clause-few
returns-clause-few g c =
    let laid = c.in_ok-laid.laid.items in
    omega (arith, length-map c.in_ok-out.out.items piece_of, ap length c.in_ok-out.ensures.made, as_many_pieces c.as_slice.result.now, ap length c.as_slice.ensures.value, few_by_edges 0 0 laid, c.in_ok-laid.ensures.few)
