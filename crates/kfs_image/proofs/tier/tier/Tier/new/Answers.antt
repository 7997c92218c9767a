use Rattle.std.proofs.Common.{sym, subst}
use Rattle.kfs_image.specs.Tier.Tier.{AreInTier}
use Rattle.kfs_image.proofs.TierLemmas.TierRooms.{AreInTier-empty}
use Rattle.kfs_image.proofs.tier.tier.Tier.new.Goals as goal

pub invariant_of-result : goal.invariant_of-result
invariant_of-result g c = subst (λ blocks. AreInTier (record { places = c.in_ok-places.places; blocks = blocks })) (sym c.new-2.ensures) (AreInTier-empty c.in_ok-places.places)
