use Rattle.std.proofs.Common.{◌≡◌}
use Rattle.kfs_image.specs.Tier.TierViews.{free_of, devices_of}
use Rattle.kfs_image.proofs.tier.tiers.release_all.Given as goal

abbrev pub invariant-loop-block : goal.invariant-loop-block
invariant-loop-block g l = record {
  free : free_of l.tiers ≡ free_of l.fn.tiers;
  devices : devices_of l.tiers ≡ devices_of l.fn.tiers;
}
