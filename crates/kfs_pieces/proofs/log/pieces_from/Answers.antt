use Rattle.std.proofs.Common.{◌++◌, map, sym, ap, ◌∙◌}
use Rattle.std.proofs.lemmas.List.{append-nil, drop_all}
use Rattle.kfs_types.specs.Views.{piece_of}
use Rattle.kfs_pieces.specs.Made.{pieces_made}
use Rattle.kfs_pieces.proofs.Fits.{filled_at}
use Rattle.kfs_pieces.proofs.Made.{made_by_number}
use Rattle.kfs_pieces.proofs.log.pieces_from.Goals as goal

pub piece_from-requires-clause-filled : goal.piece_from-requires-clause-filled
piece_from-requires-clause-filled g c = filled_at c.args.ranges.now 0 0 c.loop-range.range-index _ c.loop-range-test.true c.requires.order

pub returns-clause-order : goal.returns-clause-order
returns-clause-order g c =
    made_by_number c.args.ranges.now c.loop-range.out.items 0 0
    (sym (append-nil (map piece_of c.loop-range.out.items))
    ∙ ap (λ ss. map piece_of c.loop-range.out.items ++ pieces_made ss) (sym (drop_all c.loop-range.range-index c.args.ranges.now c.loop-range-test.false))
    ∙ c.loop-range.invariant.made)
    c.requires.order
