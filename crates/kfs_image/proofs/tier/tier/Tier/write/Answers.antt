use Rattle.std.proofs.Common.{Some, sym, subst}
use Rattle.kfs_image.specs.Tier.Blocks.{HasRoomForBlock}
use Rattle.kfs_image.specs.Tier.Tier.{TierShown}
use Rattle.kfs_image.proofs.TierLemmas.TierRooms.{AreInTier-insert}
use Rattle.kfs_image.proofs.tier.tier.Tier.write.Goals as goal

pub invariant_of-self : goal.invariant_of-self
invariant_of-self g c =
    AreInTier-insert c.self.inside.places c.self.inside.blocks c.put.new.self c.args.place c.self.invariant (Some c.args.bytes.items) c.put.ensures.table
    (c.self.invariant.in_tier c.args.place (subst (λ (tier : TierShown). HasRoomForBlock tier.blocks c.args.place) (sym c.self.view_is) c.requires.room))
