use Rattle.std.proofs.Common.{length, ap, arith}
use Rattle.kfs_image.specs.Tier.Tier.{TierShown}
use Rattle.kfs_image.proofs.TierLemmas.TierRooms.{AreInTier-after}
use Rattle.kfs_image.proofs.tier.tier.Tier.reserve.Goals as goal

pub invariant_of-self : goal.invariant_of-self
invariant_of-self g c =
    AreInTier-after c.self.inside.places c.self.inside.blocks c.reserve.new.self c.args.place c.self.invariant c.reserve.result c.reserve.ensures.ok c.reserve.ensures.err
    (omega (arith, c.requires, ap (λ (tier : TierShown). length tier.places) c.self.view_is))
