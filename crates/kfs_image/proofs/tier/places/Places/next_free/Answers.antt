use Rattle.std.proofs.Common.{length, ap, subst, ◌∙◌, arith}
use Rattle.kfs_image.specs.Tier.Places.{IsNextFree, AreUsedFrom}
use Rattle.kfs_image.specs.Tier.Words.{places_of}
use Rattle.kfs_image.proofs.TierLemmas.PlaceLists.{next_free_found, next_free_past, next_free_none}
use Rattle.kfs_image.proofs.tier.places.Places.next_free.Goals as goal

pub returns-in_err-place-clause-none : goal.returns-in_err-place-clause-none
returns-in_err-place-clause-none g c =
    let shown = ap (λ words. places_of words c.self.inside.size) c.as_slice.ensures.value ∙ c.self.view_is in
    rw c.from_residual.ensures (subst (λ places. AreUsedFrom places c.args.from) shown
    (next_free_none c.as_slice.result.now c.self.inside.size c.args.from (omega (arith, c.self.invariant.cover, ap length c.as_slice.ensures.value)) c.in_err-place.ensures.none))

pub returns-then-place-size-clause-found : goal.returns-then-place-size-clause-found
returns-then-place-size-clause-found g c =
    let shown = ap (λ words. places_of words c.self.inside.size) c.as_slice.ensures.value ∙ c.self.view_is in
    subst (λ places. IsNextFree places c.args.from c.in_ok-place.place) shown
    (next_free_found c.as_slice.result.now c.self.inside.size c.args.from c.in_ok-place.place c.in_ok-place.ensures.found c.if-place-size.true)

pub returns-else-place-size-clause-none : goal.returns-else-place-size-clause-none
returns-else-place-size-clause-none g c =
    let shown = ap (λ words. places_of words c.self.inside.size) c.as_slice.ensures.value ∙ c.self.view_is in
    subst (λ places. AreUsedFrom places c.args.from) shown
    (next_free_past c.as_slice.result.now c.self.inside.size c.args.from c.in_ok-place.place c.in_ok-place.ensures.found c.if-place-size.false)
