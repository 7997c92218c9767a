use Rattle.std.proofs.Common.{◌≡◌, ℕ, ◌<◌, get_or}
use Rattle.kfs_image.specs.declared.tier.tiers.NewBlock.{NewBlock}
use Rattle.kfs_image.specs.Tier.TierViews.{free_of, devices_of, HasRoomAt}
use Rattle.kfs_image.proofs.tier.tiers.reserve_all.Given as goal

abbrev pub invariant-loop-block : goal.invariant-loop-block
invariant-loop-block g l = record {
  free : free_of l.tiers ≡ free_of l.fn.tiers;
  devices : devices_of l.tiers ≡ devices_of l.fn.tiers;
  room : (k : ℕ) (d : NewBlock _) → k < l.block-index → HasRoomAt l.tiers (get_or l.blocks k d).place;
}
