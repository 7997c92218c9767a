use Rattle.std.proofs.Common.{◌≡◌, drop}
use Rattle.kfs_image.specs.Tier.Tiers.{with_places}
use Rattle.kfs_image.specs.Tier.TierViews.{free_of, devices_of, CanTurnPlaces}
use Rattle.kfs_image.proofs.tier.tiers.turn_all.Given as goal

abbrev pub invariant-loop-place : goal.invariant-loop-place
invariant-loop-place g l = record {
  can : CanTurnPlaces l.free (drop l.place-index l.places) (free_of l.tiers);
  free : with_places l.free (drop l.place-index l.places) (free_of l.tiers) ≡ with_places l.fn.free l.fn.places (free_of l.fn.tiers);
  devices : devices_of l.tiers ≡ devices_of l.fn.tiers;
}
