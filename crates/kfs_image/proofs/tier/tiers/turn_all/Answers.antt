use Rattle.std.proofs.Common.{subst, sym, ap, ◌∙◌, arith}
use Rattle.kfs_image.specs.Tier.Tiers.{with_places}
use Rattle.kfs_image.specs.Tier.TierViews.{CanTurnPlaces}
use Rattle.kfs_image.proofs.TierLemmas.TierLists.{can_turn-here, with_places-here, with_places-end}
use Rattle.kfs_image.proofs.tier.tiers.turn_all.Goals as goal

pub turn-requires-clause-in_tier : goal.turn-requires-clause-in_tier
turn-requires-clause-in_tier g c = (can_turn-here c.args.free c.args.places.now c.loop-place.place-index c.place-item.result _ c.loop-place-test.true c.place-item.is c.loop-place.invariant.can).0

pub turn-requires-clause-other : goal.turn-requires-clause-other
turn-requires-clause-other g c = (can_turn-here c.args.free c.args.places.now c.loop-place.place-index c.place-item.result _ c.loop-place-test.true c.place-item.is c.loop-place.invariant.can).1

pub loop-place-preserved : goal.loop-place-preserved
loop-place-preserved g c =
    let can = can_turn-here c.args.free c.args.places.now c.loop-place.place-index c.place-item.result _ c.loop-place-test.true c.place-item.is c.loop-place.invariant.can in
    record {
      can = subst (CanTurnPlaces c.args.free _) (sym c.turn.ensures.free) can.2;
      free = ap (with_places c.args.free _) c.turn.ensures.free
          ∙ sym (with_places-here c.args.free c.args.places.now c.loop-place.place-index c.place-item.result _ c.loop-place-test.true c.place-item.is)
          ∙ c.loop-place.invariant.free;
      devices = c.turn.ensures.devices ∙ c.loop-place.invariant.devices;
    }

pub returns-clause-free : goal.returns-clause-free
returns-clause-free g c =
    sym (with_places-end c.args.free c.args.places.now c.loop-place.place-index _ (omega (arith, c.loop-place-test.false))) ∙ c.loop-place.invariant.free
