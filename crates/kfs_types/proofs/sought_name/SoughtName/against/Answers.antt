use Rattle.std.proofs.Common.{◌∙◌, ◌≤◌, length, drop, subst, sym, ap, arith, refl, Equal}
use Rattle.std.proofs.lemmas.List.{take_rest}
use Rattle.std.specs.Ordering.{nat_cmp}
use Rattle.std.specs.Cmp.{nat_cmp_is}
use Rattle.std.specs.Cmp.Lexicographic.{slice_cmp}
use Rattle.kfs_types.proofs.Heads.{by_heads, by_rests}
use Rattle.kfs_types.proofs.sought_name.SoughtName.against.Goals as goal

pub returns-then-self-other_head : goal.returns-then-self-other_head
returns-then-self-other_head c =
    let one = c.self.invariant in
    let other = c.head-other_head.ensures in
    c.cmp.ensures
    ∙ by_heads (one.0, refl, refl) (other.name, refl, refl) one.2 other.bytes _ _ one.1 other.value (λ same. absurd (c.if-self-other_head.true same))
    ∙ (λ i. slice_cmp nat_cmp (c.self.view_is i) c.args.other.now)

pub returns-then-self-lt16 : goal.returns-then-self-lt16
returns-then-self-lt16 c =
    let one = c.self.invariant in
    let other = c.head-other_head.ensures in
    nat_cmp_is _ _ Equal c.if-self-other_head.false
    ∙ by_heads (one.0, refl, refl) (other.name, refl, refl) one.2 other.bytes _ _ one.1 other.value (λ same. c.if-self-lt16.true)
    ∙ (λ i. slice_cmp nat_cmp (c.self.view_is i) c.args.other.now)

pub slice_bounds-other_rest-count : goal.slice_bounds-other_rest-count
slice_bounds-other_rest-count c =
    let one = c.self.invariant in
    let other = c.head-other_head.ensures in
    let rests = by_rests (one.0, refl, refl) (other.name, refl, refl) one.2 other.bytes _ _ one.1 other.value c.if-self-other_head.false (omega (arith, c.if-self-lt16.false)) in
    subst (λ bytes. 16 ≤ length bytes) (sym c.as_bytes.ensures.value) rests.0

pub slice_bounds-other_rest-start : goal.slice_bounds-other_rest-start
slice_bounds-other_rest-start c = slice_bounds-other_rest-count c

pub returns : goal.returns
returns c =
    let one = c.self.invariant in
    let other = c.head-other_head.ensures in
    let rests = by_rests (one.0, refl, refl) (other.name, refl, refl) one.2 other.bytes _ _ one.1 other.value c.if-self-other_head.false (omega (arith, c.if-self-lt16.false)) in
    let behind = take_rest c.self.inside.bytes.now 16 in
    let other_behind = take_rest c.as_bytes.result.now 16 ∙ ap (drop 16) c.as_bytes.ensures.value in
    c.cmp-2.ensures ∙ (λ i. slice_cmp nat_cmp (behind i) (other_behind i)) ∙ rests.1 ∙ (λ i. slice_cmp nat_cmp (c.self.view_is i) c.args.other.now)
