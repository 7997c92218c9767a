use Rattle.std.proofs.Common.{sym, ap, ◌∙◌, drop}
use Rattle.kfs_pieces.specs.ByteRanges.{cut_from}
use Rattle.kfs_pieces.proofs.Rests.{rest_some, rest_none}
use Rattle.kfs_pieces.proofs.Steps.{from_over, from_part, from_none, from_nothing}
use Rattle.kfs_pieces.proofs.merge.skip_below.Goals as goal

pub loop-left-preserved : goal.loop-left-preserved
loop-left-preserved c =
    ap (cut_from c.args.number c.args.place) c.from_next-left.ensures
    ∙ sym (ap (cut_from c.args.number c.args.place) (rest_some c.args.list.now c.loop-left.left c.in-Some.range c.in-Some.is)
    ∙ from_over c.args.number c.args.place c.in-Some.range (drop c.loop-left.left.next c.args.list.now) (sym c.is_over.ensures ∙ c.if-is_over.true))
    ∙ c.loop-left.invariant

pub returns-then-has_begun : goal.returns-then-has_begun
returns-then-has_begun c =
    sym (ap (cut_from c.args.number c.args.place) (rest_some c.args.list.now c.loop-left.left c.in-Some.range c.in-Some.is)
    ∙ from_part c.args.number c.args.place c.in-Some.range (drop c.loop-left.left.next c.args.list.now) (sym c.is_over.ensures ∙ c.if-is_over.false) (sym c.has_begun.ensures ∙ c.if-has_begun.true))
    ∙ c.loop-left.invariant

pub returns-else-has_begun : goal.returns-else-has_begun
returns-else-has_begun c =
    rest_some c.args.list.now c.loop-left.left c.in-Some.range c.in-Some.is
    ∙ sym (ap (cut_from c.args.number c.args.place) (rest_some c.args.list.now c.loop-left.left c.in-Some.range c.in-Some.is)
    ∙ from_none c.args.number c.args.place c.in-Some.range (drop c.loop-left.left.next c.args.list.now) (sym c.is_over.ensures ∙ c.if-is_over.false) (sym c.has_begun.ensures ∙ c.if-has_begun.false))
    ∙ c.loop-left.invariant

pub returns : goal.returns
returns c =
    let none = rest_none c.args.list.now c.loop-left.left c.in_default.is in
    none ∙ sym (ap (cut_from c.args.number c.args.place) none ∙ from_nothing c.args.number c.args.place) ∙ c.loop-left.invariant
