-- A look finds the only place of the node.
use Rattle.std.proofs.Common.{◌≡◌, ◌<◌, ℕ, length, Some, ap, arith}
use Rattle.std.specs.Prelude.{unwrap_or}
use Rattle.kfs_judge_reads.specs.Climbs.{order_of}
use Rattle.kfs_judge_reads.proofs.Ways.{found_place}
use Rattle.kfs_judge_reads.proofs.climbs.Climbs.first_of.Goals as goal

same_place : {one other : ℕ} → Some one ≡ Some other → one ≡ other
same_place {one} is = ap (λ found. unwrap_or found one) is

pub returns-in-Some-clause-other : goal.returns-in-Some-clause-other
returns-in-Some-clause-other g c passed after before here =
    let inside : passed < length (order_of c.args.self.now) = omega (arith, before, c.if-place-end.true, c.requires.within) in
    let is = same_place (found_place (order_of c.args.self.now) c.requires.once c.args.node passed inside here (Some c.in-Some.place) c.in-Some.ensures.index c.in-Some.ensures.found) in
    omega (arith, before, is)

pub returns-in_default-clause-other : goal.returns-in_default-clause-other
returns-in_default-clause-other g c passed after before here =
    let inside : passed < length (order_of c.args.self.now) = omega (arith, before, c.requires.within) in
    let is = same_place (found_place (order_of c.args.self.now) c.requires.once c.args.node passed inside here (Some c.in-Some.place) c.in-Some.ensures.index c.in-Some.ensures.found) in
    omega (arith, before, is, c.if-place-end.false)

pub returns-in_default-2-clause-other : goal.returns-in_default-2-clause-other
returns-in_default-2-clause-other g c passed after before here =
    let inside : passed < length (order_of c.args.self.now) = omega (arith, before, c.requires.within) in
    let is = same_place (found_place (order_of c.args.self.now) c.requires.once c.args.node passed inside here (Some c.in-Some.place) c.in-Some.ensures.index c.in-Some.ensures.found) in
    omega (arith, after, is, c.if-start-place.false)
