use Rattle.std.proofs.Common.{◌≡◌, All, vec_len}
use Rattle.std.specs.Vec.Iter.{into_iter_items}
use Rattle.kfs_model.specs.Limits.{block_size}
use Rattle.kfs_image.specs.Tier.Tiers.{IsInTier, with_blocks}
use Rattle.kfs_image.specs.Tier.TierViews.{free_of, devices_of, HasRoomAt}
use Rattle.kfs_image.proofs.tier.tiers.write_all.Given as goal

abbrev pub invariant-loop-block : goal.invariant-loop-block
invariant-loop-block g l = record {
  ready : (goal.iterator-loop-block g).can_next l.block-iterator;
  finite : (goal.iterator-loop-block g).is_finite l.block-iterator;
  in_tier : All (λ b. IsInTier (free_of l.tiers) b.place) (into_iter_items l.block-iterator);
  room : All (λ b. HasRoomAt l.tiers b.place) (into_iter_items l.block-iterator);
  whole : All (λ b. vec_len b.bytes ≡ block_size) (into_iter_items l.block-iterator);
  free : free_of l.tiers ≡ free_of l.fn.tiers;
  devices : with_blocks (into_iter_items l.block-iterator) (devices_of l.tiers) ≡ with_blocks l.fn.blocks.items (devices_of l.fn.tiers);
}
