-- A tier in contracts: its places, and its blocks.
use Rattle.std.specs.Prelude.{ℕ, ◌<◌, Bool, List, length}
use Rattle.kfs_image.specs.Tier.Blocks.{BlockTable, HasRoomForBlock}

pub record TierShown : Type 0 where
  pub places : List Bool
  pub blocks : BlockTable

-- only places of the tier have room for a block
pub record AreInTier (tier : TierShown) : Type 0 where
  pub in_tier : (place : ℕ) → HasRoomForBlock tier.blocks place → place < length tier.places
