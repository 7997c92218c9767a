use Rattle.std.proofs.Common.{sym, ap, ◌∙◌, drop, ◌++◌}
use Rattle.std.proofs.lemmas.List.{append-nil}
use Rattle.kfs_pieces.specs.ByteRanges.{cut_below, cut_from}
use Rattle.kfs_pieces.proofs.Rests.{rest_some, rest_none}
use Rattle.kfs_pieces.proofs.Steps.{below_over, below_part, below_none, below_nothing, from_over, from_part, from_none, from_nothing, append_one}
use Rattle.kfs_pieces.proofs.merge.take_below.Goals as goal

pub loop-left-preserved : goal.loop-left-preserved
loop-left-preserved g c =
    let n = c.args.number in
    let p = c.args.place in
    let tail = drop c.loop-left.left.next c.args.list.now in
    let is = rest_some c.args.list.now c.loop-left.left c.in-Some.range c.in-Some.is in
    let over = sym c.is_over.ensures ∙ c.if-is_over.true in
    record {
      taken =
          (λ i. c.in_ok-push.ensures.items i ++ cut_below n p (c.from_next-left.ensures i))
          ∙ append_one c.loop-left.out.items c.in-Some.range (cut_below n p tail)
          ∙ ap (λ xs. c.loop-left.out.items ++ xs) (sym (ap (cut_below n p) is ∙ below_over n p c.in-Some.range tail over))
          ∙ c.loop-left.invariant.taken;
      left =
          ap (cut_from n p) c.from_next-left.ensures
          ∙ sym (ap (cut_from n p) is ∙ from_over n p c.in-Some.range tail over)
          ∙ c.loop-left.invariant.left;
    }

pub returns-then-has_begun-clause-taken : goal.returns-then-has_begun-clause-taken
returns-then-has_begun-clause-taken g c =
    let n = c.args.number in
    let p = c.args.place in
    let tail = drop c.loop-left.left.next c.args.list.now in
    let is = rest_some c.args.list.now c.loop-left.left c.in-Some.range c.in-Some.is in
    c.in_ok-push-2.ensures.items
    ∙ ap (λ xs. c.loop-left.out.items ++ xs) (sym (ap (cut_below n p) is ∙ below_part n p c.in-Some.range tail (sym c.is_over.ensures ∙ c.if-is_over.false) (sym c.has_begun.ensures ∙ c.if-has_begun.true)))
    ∙ c.loop-left.invariant.taken

pub returns-then-has_begun-clause-left : goal.returns-then-has_begun-clause-left
returns-then-has_begun-clause-left g c =
    sym (ap (cut_from c.args.number c.args.place) (rest_some c.args.list.now c.loop-left.left c.in-Some.range c.in-Some.is)
    ∙ from_part c.args.number c.args.place c.in-Some.range (drop c.loop-left.left.next c.args.list.now) (sym c.is_over.ensures ∙ c.if-is_over.false) (sym c.has_begun.ensures ∙ c.if-has_begun.true))
    ∙ c.loop-left.invariant.left

pub returns-else-has_begun-clause-taken : goal.returns-else-has_begun-clause-taken
returns-else-has_begun-clause-taken g c =
    let n = c.args.number in
    let p = c.args.place in
    let tail = drop c.loop-left.left.next c.args.list.now in
    let is = rest_some c.args.list.now c.loop-left.left c.in-Some.range c.in-Some.is in
    sym (append-nil c.loop-left.out.items)
    ∙ ap (λ xs. c.loop-left.out.items ++ xs) (sym (ap (cut_below n p) is ∙ below_none n p c.in-Some.range tail (sym c.is_over.ensures ∙ c.if-is_over.false) (sym c.has_begun.ensures ∙ c.if-has_begun.false)))
    ∙ c.loop-left.invariant.taken

pub returns-else-has_begun-clause-left : goal.returns-else-has_begun-clause-left
returns-else-has_begun-clause-left g c =
    rest_some c.args.list.now c.loop-left.left c.in-Some.range c.in-Some.is
    ∙ sym (ap (cut_from c.args.number c.args.place) (rest_some c.args.list.now c.loop-left.left c.in-Some.range c.in-Some.is)
    ∙ from_none c.args.number c.args.place c.in-Some.range (drop c.loop-left.left.next c.args.list.now) (sym c.is_over.ensures ∙ c.if-is_over.false) (sym c.has_begun.ensures ∙ c.if-has_begun.false))
    ∙ c.loop-left.invariant.left

pub returns-clause-taken : goal.returns-clause-taken
returns-clause-taken g c =
    let none = rest_none c.args.list.now c.loop-left.left c.in_default.is in
    sym (append-nil c.loop-left.out.items)
    ∙ ap (λ xs. c.loop-left.out.items ++ xs) (sym (ap (cut_below c.args.number c.args.place) none ∙ below_nothing c.args.number c.args.place))
    ∙ c.loop-left.invariant.taken

pub returns-clause-left : goal.returns-clause-left
returns-clause-left g c =
    let none = rest_none c.args.list.now c.loop-left.left c.in_default.is in
    none ∙ sym (ap (cut_from c.args.number c.args.place) none ∙ from_nothing c.args.number c.args.place) ∙ c.loop-left.invariant.left
