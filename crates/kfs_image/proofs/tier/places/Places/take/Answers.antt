use Rattle.std.proofs.Common.{true, false, set, ap, ◌∙◌, arith}
use Rattle.std.proofs.lemmas.List.{with_items_is}
use Rattle.kfs_image.specs.Tier.Places.{is_free_in}
use Rattle.kfs_image.proofs.TierLemmas.PlaceLists.{free_is_below, places_of-held, counted-take}
use Rattle.kfs_image.proofs.tier.places.Places.take.Goals as goal

pub mark-requires : goal.mark-requires
mark-requires g c =
    let below = free_is_below c.self.inside.used.items c.self.inside.size c.args.place (ap (λ places. is_free_in places c.args.place) c.self.view_is ∙ c.requires) in
    omega (arith, c.self.invariant.cover)

pub invariant_of-self : goal.invariant_of-self
invariant_of-self g c =
    let is_free = ap (λ places. is_free_in places c.args.place) c.self.view_is ∙ c.requires in
    counted-take c.self.inside.used.items c.as_mut_slice.result.now c.mark.new.words _ c.self.inside.size c.args.place c.as_mut_slice.ensures.value
    (with_items_is c.self.inside.used c.mark.new.words (c.mark.auto.words ∙ c.as_mut_slice.ensures.len))
    (free_is_below c.self.inside.used.items c.self.inside.size c.args.place is_free)
    c.self.inside.free c.self.invariant is_free c.mark.auto.words c.mark.ensures

pub returns : goal.returns
returns g c =
    let is_free = ap (λ places. is_free_in places c.args.place) c.self.view_is ∙ c.requires in
    places_of-held c.self.inside.used.items c.as_mut_slice.result.now c.mark.new.words _ c.self.inside.size c.args.place c.as_mut_slice.ensures.value
    (with_items_is c.self.inside.used c.mark.new.words (c.mark.auto.words ∙ c.as_mut_slice.ensures.len))
    (free_is_below c.self.inside.used.items c.self.inside.size c.args.place is_free)
    true c.mark.ensures
    ∙ ap (λ places. set places c.args.place false) c.self.view_is
