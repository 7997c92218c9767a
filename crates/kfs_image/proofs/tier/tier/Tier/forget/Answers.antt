use Rattle.kfs_image.proofs.TierLemmas.TierRooms.{AreInTier-remove}
use Rattle.kfs_image.proofs.tier.tier.Tier.forget.Goals as goal

pub invariant_of-self : goal.invariant_of-self
invariant_of-self g c = AreInTier-remove c.self.inside.places c.self.inside.blocks c.forget.new.self c.args.place c.self.invariant c.forget.ensures
