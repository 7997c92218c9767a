use Rattle.std.proofs.Common.{◌≡◌, ◌+◌, false, length, ltb, subst, refl, sym, ap, ◌∙◌, arith}
use Rattle.kfs_image.specs.Tier.Blocks.{byte_at}
use Rattle.kfs_image.specs.Tier.Tier.{TierShown}
use Rattle.kfs_image.specs.Tier.TierViews.{no_tier, tier_of}
use Rattle.kfs_image.proofs.TierLemmas.TiersChanged.{byte_there, byte_past}
use Rattle.kfs_image.proofs.tier.tiers.Tiers.read.Goals as goal

pub returns-in-Some : goal.returns-in-Some
returns-in-Some g c i below =
    c.read.ensures i below ∙ ap (λ blocks. byte_at blocks c.place.inside.place (c.args.offset + i)) c.blocks-in-Some.ensures.blocks
    ∙ ap (λ (s : TierShown). byte_at s.blocks c.place.inside.place (c.args.offset + i)) (c.in-Some.ensures.lookup.3.1 no_tier)
    ∙ ap (λ ts. byte_at (tier_of ts c.place.inside.tier).blocks c.place.inside.place (c.args.offset + i)) c.deref.ensures.value
    ∙ sym (byte_there c.self.inside.sizes c.self.inside.tiers.items c.args.self.now c.place.inside.tier c.place.inside.place c.args.place (c.args.offset + i) c.self.view_is c.place.view_is)

pub returns-in-None : goal.returns-in-None
returns-in-None g c i below =
    c.fill.ensures.clones i 0 (omega (arith, below, c.fill.ensures.len)) refl
    ∙ sym (byte_past c.self.inside.tiers.items c.place.inside.tier c.place.inside.place (c.args.offset + i) (subst (λ ts. false ≡ ltb c.place.inside.tier (length ts)) c.deref.ensures.value c.in-None.ensures.lookup.0))
    ∙ sym (byte_there c.self.inside.sizes c.self.inside.tiers.items c.args.self.now c.place.inside.tier c.place.inside.place c.args.place (c.args.offset + i) c.self.view_is c.place.view_is)
