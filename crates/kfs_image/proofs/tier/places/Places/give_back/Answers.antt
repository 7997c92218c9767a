use Rattle.std.proofs.Common.{◌<◌, true, false, length, set, ap, ◌∙◌, arith}
use Rattle.std.proofs.lemmas.List.{with_items_is}
use Rattle.kfs_image.specs.Tier.Places.{is_free_in}
use Rattle.kfs_image.proofs.TierLemmas.PlaceLists.{length-places_of, places_of-held, counted-give_back, room-to_give_back}
use Rattle.kfs_image.proofs.tier.places.Places.give_back.Goals as goal

pub clear-requires : goal.clear-requires
clear-requires g c =
    omega (arith, length-places_of c.self.inside.used.items c.self.inside.size, ap length c.self.view_is, c.self.invariant.cover)

pub overflow_add-self : goal.overflow_add-self
overflow_add-self g c =
    let within : c.args.place < c.self.inside.size = omega (arith, length-places_of c.self.inside.used.items c.self.inside.size, ap length c.self.view_is) in
    let room = room-to_give_back c.self.inside.used.items c.as_mut_slice.result.now c.clear.new.words _ c.self.inside.size c.args.place c.as_mut_slice.ensures.value
    (with_items_is c.self.inside.used c.clear.new.words (c.clear.auto.words ∙ c.as_mut_slice.ensures.len)) within
    c.self.inside.free c.self.invariant (ap (λ places. is_free_in places c.args.place) c.self.view_is ∙ c.requires.used) in
    omega arith

pub invariant_of-self : goal.invariant_of-self
invariant_of-self g c =
    let within : c.args.place < c.self.inside.size = omega (arith, length-places_of c.self.inside.used.items c.self.inside.size, ap length c.self.view_is) in
    counted-give_back c.self.inside.used.items c.as_mut_slice.result.now c.clear.new.words _ c.self.inside.size c.args.place c.as_mut_slice.ensures.value
    (with_items_is c.self.inside.used c.clear.new.words (c.clear.auto.words ∙ c.as_mut_slice.ensures.len)) within
    c.self.inside.free c.self.invariant (ap (λ places. is_free_in places c.args.place) c.self.view_is ∙ c.requires.used) c.clear.auto.words c.clear.ensures

pub returns : goal.returns
returns g c =
    let within : c.args.place < c.self.inside.size = omega (arith, length-places_of c.self.inside.used.items c.self.inside.size, ap length c.self.view_is) in
    places_of-held c.self.inside.used.items c.as_mut_slice.result.now c.clear.new.words _ c.self.inside.size c.args.place c.as_mut_slice.ensures.value
    (with_items_is c.self.inside.used c.clear.new.words (c.clear.auto.words ∙ c.as_mut_slice.ensures.len)) within
    false c.clear.ensures
    ∙ ap (λ places. set places c.args.place true) c.self.view_is
