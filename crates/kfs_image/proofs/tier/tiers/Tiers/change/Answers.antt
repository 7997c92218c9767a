use Rattle.std.proofs.Common.{◌≡◌, true, false, All, sym, ap, subst, ◌∙◌, arith}
use Rattle.std.proofs.lemmas.List.{with_items_is}
use Rattle.std.specs.Prelude.{OnOk, OnErr}
use Rattle.std.specs.Vec.{with_items}
use Rattle.kfs_image.specs.declared.tier.tiers.NewBlock.{NewBlock}
use Rattle.kfs_image.specs.Tier.Tiers.{IsInTier, TiersAreSized, changed, with_places}
use Rattle.kfs_image.specs.Tier.TierViews.{free_of, CanTurnPlaces}
use Rattle.kfs_image.proofs.TierLemmas.TierChanges.{can_turn, free_in_tier}
use Rattle.kfs_image.proofs.TierLemmas.TiersChanged.{shown_of, changed_ok, changed_err, changed_sized}
use Rattle.kfs_image.proofs.tier.tiers.Tiers.change.Goals as goal

pub change_all-requires-clause-given : goal.change_all-requires-clause-given
change_all-requires-clause-given g c =
    subst (CanTurnPlaces true c.args.given.now) (sym (ap free_of c.as_mut_slice.ensures.value ∙ ap (λ t. t.free) c.self.view_is))
    (can_turn true c.args.given.now c.args.self.now.free c.requires.places.given_used c.requires.places.given_once)

pub change_all-requires-clause-taken : goal.change_all-requires-clause-taken
change_all-requires-clause-taken g c =
    subst (λ free. CanTurnPlaces false c.args.taken.now (with_places true c.args.given.now free)) (sym (ap free_of c.as_mut_slice.ensures.value ∙ ap (λ t. t.free) c.self.view_is))
    (can_turn false c.args.taken.now (with_places true c.args.given.now c.args.self.now.free)
    (λ k d below. (free_in_tier (with_places true c.args.given.now c.args.self.now.free) _ (c.requires.places.taken_free k d below), c.requires.places.taken_free k d below)) c.requires.places.taken_once)

pub change_all-requires-clause-in_tier : goal.change_all-requires-clause-in_tier
change_all-requires-clause-in_tier g c =
    subst (λ free. All (λ (b : NewBlock _). IsInTier free b.place) c.args.written.items) (sym (ap free_of c.as_mut_slice.ensures.value ∙ ap (λ t. t.free) c.self.view_is)) c.requires.in_tier

pub invariant_of-self : goal.invariant_of-self
invariant_of-self g c =
    let written : (with_items c.self.inside.tiers c.change_all.new.tiers).items ≡ c.change_all.new.tiers = with_items_is c.self.inside.tiers c.change_all.new.tiers (omega (arith, c.change_all.auto.tiers, c.as_mut_slice.ensures.len)) in
    subst (λ ts. TiersAreSized c.self.inside.sizes (free_of ts)) (sym written) (
    changed_sized c.self.inside.sizes c.self.inside.tiers.items c.as_mut_slice.result.now c.change_all.new.tiers c.args.self.now c.args.given.now c.args.taken.now c.args.written.items
    c.self.view_is c.as_mut_slice.ensures.value c.change_all.result c.change_all.ensures.ok_free c.change_all.ensures.err_free c.self.invariant
    )

pub returns-clause-ok : goal.returns-clause-ok
returns-clause-ok g c =
    let written : (with_items c.self.inside.tiers c.change_all.new.tiers).items ≡ c.change_all.new.tiers = with_items_is c.self.inside.tiers c.change_all.new.tiers (omega (arith, c.change_all.auto.tiers, c.as_mut_slice.ensures.len)) in
    subst (λ ts. OnOk c.change_all.result (shown_of c.self.inside.sizes ts ≡ changed c.args.given.now c.args.taken.now c.args.written.items c.args.self.now)) (sym written) (
    changed_ok c.self.inside.sizes c.self.inside.tiers.items c.as_mut_slice.result.now c.change_all.new.tiers c.args.self.now c.args.given.now c.args.taken.now c.args.written.items
    c.self.view_is c.as_mut_slice.ensures.value c.change_all.result c.change_all.ensures.ok_free c.change_all.ensures.ok_devices
    )

pub returns-clause-err : goal.returns-clause-err
returns-clause-err g c =
    let written : (with_items c.self.inside.tiers c.change_all.new.tiers).items ≡ c.change_all.new.tiers = with_items_is c.self.inside.tiers c.change_all.new.tiers (omega (arith, c.change_all.auto.tiers, c.as_mut_slice.ensures.len)) in
    subst (λ ts. OnErr c.change_all.result (shown_of c.self.inside.sizes ts ≡ c.args.self.now)) (sym written) (
    changed_err c.self.inside.sizes c.self.inside.tiers.items c.as_mut_slice.result.now c.change_all.new.tiers c.args.self.now c.args.given.now c.args.taken.now c.args.written.items
    c.self.view_is c.as_mut_slice.ensures.value c.change_all.result c.change_all.ensures.err_free c.change_all.ensures.err_devices
    )

pub returns-clause-sized : goal.returns-clause-sized
returns-clause-sized g c =
    let written : (with_items c.self.inside.tiers c.change_all.new.tiers).items ≡ c.change_all.new.tiers = with_items_is c.self.inside.tiers c.change_all.new.tiers (omega (arith, c.change_all.auto.tiers, c.as_mut_slice.ensures.len)) in
    subst (λ ts. TiersAreSized c.self.inside.sizes (free_of ts)) (sym written) (
    changed_sized c.self.inside.sizes c.self.inside.tiers.items c.as_mut_slice.result.now c.change_all.new.tiers c.args.self.now c.args.given.now c.args.taken.now c.args.written.items
    c.self.view_is c.as_mut_slice.ensures.value c.change_all.result c.change_all.ensures.ok_free c.change_all.ensures.err_free c.self.invariant
    )
