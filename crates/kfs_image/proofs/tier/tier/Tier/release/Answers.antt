use Rattle.kfs_image.proofs.TierLemmas.TierRooms.{AreInTier-without_room}
use Rattle.kfs_image.proofs.tier.tier.Tier.release.Goals as goal

pub invariant_of-self : goal.invariant_of-self
invariant_of-self g c = AreInTier-without_room c.self.inside.places c.self.inside.blocks c.release.new.self c.args.place c.self.invariant c.release.ensures.table
