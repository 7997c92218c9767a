use Rattle.std.proofs.Common.{◌+◌, ◌≤◌, length, subst, sym, arith}
use Rattle.kfs_desk.proofs.FillLemmas.FreePlaces.{AreFound, found_next, found_enough, found_last, found_end}
use Rattle.kfs_desk.proofs.fill.fill.free_places.Goals as goal
use Rattle.kfs_desk.proofs.fill.fill.free_places.Goals.{then-loop-place-test+else-from-size, else-loop-place-test, then-loop-place-test+then-from-size+in_default}

pub loop-place-preserved : goal.loop-place-preserved
loop-place-preserved g c = record {
  found = subst (λ places. AreFound c.args.image.now.sizes c.args.image.now.placement places (c.in-Some.place + 1)) (sym c.in_ok-push.ensures.items)
      (found_next c.args.image.now.sizes c.args.image.now.placement c.loop-place.places.items c.loop-place.from c.loop-place.invariant.found c.in-Some.place c.in-Some.ensures.found);
  few = omega (arith, c.in_ok-push.ensures.len, c.len.ensures);
}

pub returns : goal.returns
returns g c =
    let sizes = c.args.image.now.sizes in
    let placement = c.args.image.now.placement in
    let found = c.loop-place.places.items in
    let few : length found ≤ c.args.count = omega (arith, c.loop-place.invariant.few, c.loop-place.places.ok.0) in
    elim c.loop-place-test.branch [
      | then-loop-place-test+else-from-size w ↦ found_end sizes placement found c.loop-place.from c.loop-place.invariant.found c.args.count few (omega (arith, w.if-from-size.false, c.tier_size-size.ensures))
      | else-loop-place-test w ↦ found_enough sizes placement found c.loop-place.from c.loop-place.invariant.found c.args.count (omega (arith, w.loop-place-test.false, c.len.ensures, few, c.loop-place.places.ok.0))
      | then-loop-place-test+then-from-size+in_default w ↦ found_last sizes placement found c.loop-place.from c.loop-place.invariant.found c.args.count few w.in_default.ensures.none
    ]
