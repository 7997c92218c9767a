-- The directories up to the end stand one after another, with no stop between, and none is the node.
use Rattle.std.proofs.Common.{◌≡◌, ℕ, ◌+◌, ◌-◌, sym, subst, slice_index_or, arith}
use Rattle.std.specs.Prelude.{nat_eq}
use Rattle.std.proofs.lemmas.Bool.{eqb-true}
use Rattle.std.proofs.lemmas.List.Quantifiers.{position-Some}
use Rattle.kfs_judge_reads.specs.Climbs.{IsWay, order_of}
use Rattle.kfs_judge_reads.proofs.Ways.{no_step, stretch_is_way}
use Rattle.kfs_judge_reads.proofs.climbs.Climbs.way.Goals as goal

pub returns-in_default : goal.returns-in_default
returns-in_default g c parent links = no_step parent c.args.node c.args.from

pub returns : goal.returns
returns g c parent links =
    let order = order_of c.args.self.now in
    let start = c.in-Some.start in
    let end = c.first_of-end.result in
    let at = position-Some (nat_eq c.args.from) order start 0 (sym c.in-Some.ensures.index) in
    let from_is : slice_index_or order start 0 ≡ c.args.from = sym (eqb-true c.args.from (slice_index_or order start 0) at.1) in
    let last_is : slice_index_or order end 0 ≡ slice_index_or c.as_slice-order.result.now end 0 = λ i. slice_index_or (sym c.as_slice-order.ensures.keys i) end 0 in
    let both : end ≡ start + (end - start) = omega (arith, c.first_of-end.ensures.after) in
    let way = stretch_is_way parent order c.args.node (end - start) start end both
    (λ p after before. links p (omega (arith, before, c.first_of-end.ensures.before, c.end_from.ensures.within)) (c.end_from.ensures.clear p after (omega (arith, before, c.first_of-end.ensures.before))))
    c.first_of-end.ensures.other in
    subst (λ (ends : ℕ × ℕ). IsWay parent c.args.node (end - start) ends.0 ends.1) (λ i. (from_is i, last_is i)) way
