use Rattle.std.proofs.Common.{subst, sym, ap, ◌∙◌, drop, map, Some, ◌∷◌}
use Rattle.std.specs.List.{AllByRecursion}
use Rattle.kfs_pieces.specs.Lefts.{PieceIsInRange}
use Rattle.kfs_types.specs.Views.{piece_of}
use Rattle.kfs_pieces.specs.PiecesApart.{behind_piece}
use Rattle.kfs_pieces.proofs.Rests.{rest_some, rest_none}
use Rattle.kfs_pieces.proofs.Following.{behind_other, behind_shorter, behind_equal, behind_longer, behind_nothing}
use Rattle.kfs_pieces.proofs.compare.left_behind.Goals as goal

pub returns-then-not-begin_alike-clause-behind : goal.returns-then-not-begin_alike-clause-behind
returns-then-not-begin_alike-clause-behind c =
    sym (ap (λ xs. behind_piece (piece_of c.loop-left.wanted) (map piece_of xs)) (rest_some c.args.right.now c.loop-left.left c.in-Some.front c.in-Some.is)
    ∙ behind_other (piece_of c.loop-left.wanted) (piece_of c.in-Some.front) (map piece_of (drop c.loop-left.left.next c.args.right.now)) (sym c.begin_alike.ensures ∙ c.if-not-begin_alike.true))
    ∙ c.loop-left.invariant.behind

pub returns-then-wanted-front-clause-behind : goal.returns-then-wanted-front-clause-behind
returns-then-wanted-front-clause-behind c =
    ap (λ q. Some (q ∷ map piece_of (drop c.loop-left.left.next c.args.right.now))) c.cut_front-back.ensures
    ∙ sym (ap (λ xs. behind_piece (piece_of c.loop-left.wanted) (map piece_of xs)) (rest_some c.args.right.now c.loop-left.left c.in-Some.front c.in-Some.is)
    ∙ behind_shorter (piece_of c.loop-left.wanted) (piece_of c.in-Some.front) (map piece_of (drop c.loop-left.left.next c.args.right.now)) (sym c.begin_alike.ensures ∙ c.if-not-begin_alike.false) c.if-wanted-front.true)
    ∙ c.loop-left.invariant.behind

pub returns-then-wanted-front-2-clause-behind : goal.returns-then-wanted-front-2-clause-behind
returns-then-wanted-front-2-clause-behind c =
    ap (λ xs. Some (map piece_of xs)) c.from_next.ensures
    ∙ sym (ap (λ xs. behind_piece (piece_of c.loop-left.wanted) (map piece_of xs)) (rest_some c.args.right.now c.loop-left.left c.in-Some.front c.in-Some.is)
    ∙ behind_equal (piece_of c.loop-left.wanted) (piece_of c.in-Some.front) (map piece_of (drop c.loop-left.left.next c.args.right.now)) (sym c.begin_alike.ensures ∙ c.if-not-begin_alike.false) c.if-wanted-front-2.true)
    ∙ c.loop-left.invariant.behind

pub returns-clause-behind : goal.returns-clause-behind
returns-clause-behind c =
    sym (ap (λ xs. behind_piece (piece_of c.loop-left.wanted) (map piece_of xs)) (rest_none c.args.right.now c.loop-left.left c.in_default.is) ∙ behind_nothing (piece_of c.loop-left.wanted))
    ∙ c.loop-left.invariant.behind

pub loop-left-preserved : goal.loop-left-preserved
loop-left-preserved c =
    let is = rest_some c.args.right.now c.loop-left.left c.in-Some.front c.in-Some.is in
    let whole = subst (AllByRecursion PieceIsInRange) is c.loop-left.invariant.short in
    record {
      behind =
          (λ i. behind_piece (c.cut_front-wanted.ensures i) (map piece_of (c.from_next-left.ensures i)))
          ∙ sym (ap (λ xs. behind_piece (piece_of c.loop-left.wanted) (map piece_of xs)) is
          ∙ behind_longer (piece_of c.loop-left.wanted) (piece_of c.in-Some.front) (map piece_of (drop c.loop-left.left.next c.args.right.now)) (sym c.begin_alike.ensures ∙ c.if-not-begin_alike.false) c.if-wanted-front.false c.if-wanted-front-2.false)
          ∙ c.loop-left.invariant.behind;
      short = subst (AllByRecursion PieceIsInRange) (sym c.from_next-left.ensures) whole.1;
    }
