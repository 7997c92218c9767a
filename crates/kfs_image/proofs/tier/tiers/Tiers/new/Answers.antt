use Rattle.std.proofs.Common.{◌≡◌, true, [], ◌∷◌, ◌++◌, length, replicate, ap, sym, subst, ◌∙◌}
use Rattle.std.proofs.lemmas.List.{length-replicate}
use Rattle.kfs_model.specs.Table.{empty}
use Rattle.kfs_image.specs.Tier.Tier.{TierShown}
use Rattle.kfs_image.specs.Tier.Tiers.{TiersAreSized}
use Rattle.kfs_image.specs.Tier.TierViews.{free_of}
use Rattle.kfs_image.proofs.TierLemmas.TierChanges.{TiersAreSized-three, fresh_is}
use Rattle.kfs_image.proofs.TierLemmas.TiersChanged.{shown_of}
use Rattle.kfs_image.proofs.tier.tiers.Tiers.new.Goals as goal

pub invariant_of-result : goal.invariant_of-result
invariant_of-result g c =
    let three : c.push-3.new.self.items ≡ c.in_ok-first.first ∷ c.in_ok-second.second ∷ c.in_ok-third.third ∷ [] =
    c.in_ok-push-3.ensures.items ∙ ap (λ ts. ts ++ c.in_ok-third.third ∷ []) (
    c.in_ok-push-2.ensures.items ∙ ap (λ ts. ts ++ c.in_ok-second.second ∷ []) (c.in_ok-push.ensures.items ∙ ap (λ ts. ts ++ c.in_ok-first.first ∷ []) c.new-tiers.ensures.items)
    ) in
    subst (λ ts. TiersAreSized c.args.sizes (free_of ts)) (sym three) (
    TiersAreSized-three c.args.sizes _ _ _
    (ap (λ (s : TierShown). length s.places) c.in_ok-first.ensures ∙ length-replicate _ true ∙ c.size.ensures.size)
    (ap (λ (s : TierShown). length s.places) c.in_ok-second.ensures ∙ length-replicate _ true ∙ c.size-2.ensures.size)
    (ap (λ (s : TierShown). length s.places) c.in_ok-third.ensures ∙ length-replicate _ true ∙ c.size-3.ensures.size)
    )

pub returns : goal.returns
returns g c =
    let three : c.push-3.new.self.items ≡ c.in_ok-first.first ∷ c.in_ok-second.second ∷ c.in_ok-third.third ∷ [] =
    c.in_ok-push-3.ensures.items ∙ ap (λ ts. ts ++ c.in_ok-third.third ∷ []) (
    c.in_ok-push-2.ensures.items ∙ ap (λ ts. ts ++ c.in_ok-second.second ∷ []) (c.in_ok-push.ensures.items ∙ ap (λ ts. ts ++ c.in_ok-first.first ∷ []) c.new-tiers.ensures.items)
    ) in
    ap (shown_of c.args.sizes) three
    ∙ fresh_is c.args.sizes c.in_ok-first.first c.in_ok-second.second c.in_ok-third.third
    (c.in_ok-first.ensures ∙ ap (λ n. record { places = replicate n true; blocks = empty }) c.size.ensures.size)
    (c.in_ok-second.ensures ∙ ap (λ n. record { places = replicate n true; blocks = empty }) c.size-2.ensures.size)
    (c.in_ok-third.ensures ∙ ap (λ n. record { places = replicate n true; blocks = empty }) c.size-3.ensures.size)
