use Rattle.std.proofs.Common.{◌≡◌, sym, ap, ◌∙◌, Some, length, arith}
use Rattle.kfs_pieces.proofs.Following.{row_is, rows_end, apart_empty, apart_other, apart_later, some_are_left, none_is_left}
use Rattle.kfs_pieces.proofs.compare.first_piece_apart.Goals as goal

pub returns-then-piece-eq0 : goal.returns-then-piece-eq0
returns-then-piece-eq0 c =
    sym (row_is c.args.pieces.now c.loop-index.index _ c.loop-index-test.true _ ∙ apart_empty c.loop-index.index _ _ _ c.if-piece-eq0.true) ∙ c.loop-index.invariant.apart

pub returns-in-None : goal.returns-in-None
returns-in-None c =
    sym (row_is c.args.pieces.now c.loop-index.index _ c.loop-index-test.true _ ∙ apart_other c.loop-index.index _ _ _ c.if-piece-eq0.false (sym c.in-None.ensures.behind)) ∙ c.loop-index.invariant.apart

pub loop-index-preserved : goal.loop-index-preserved
loop-index-preserved c = record {
  apart = sym (row_is c.args.pieces.now c.loop-index.index _ c.loop-index-test.true _ ∙ apart_later c.loop-index.index _ _ _ c.if-piece-eq0.false _ (sym c.in-Some.ensures.behind)) ∙ c.loop-index.invariant.apart;
  short = c.in-Some.ensures.short;
}

pub returns-then-is_some : goal.returns-then-is_some
returns-then-is_some c =
    let ends : length c.args.pieces.now ≡ c.loop-index.index = omega arith in
    ap Some ends ∙ sym (rows_end c.args.pieces.now c.loop-index.index _ c.loop-index-test.false ∙ some_are_left c.args.right.now c.loop-index.index c.loop-index.left (sym c.is_some.ensures ∙ c.if-is_some.true)) ∙ c.loop-index.invariant.apart

pub returns-else-is_some : goal.returns-else-is_some
returns-else-is_some c =
    sym (rows_end c.args.pieces.now c.loop-index.index _ c.loop-index-test.false ∙ none_is_left c.args.right.now c.loop-index.index c.loop-index.left (sym c.is_some.ensures ∙ c.if-is_some.false)) ∙ c.loop-index.invariant.apart
