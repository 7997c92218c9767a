-- The devices of three tiers, each a row of blocks of 4,096 bytes.
use Rattle.std.specs.Prelude.{◌≡◌, ℕ, ◌<◌, List, length, get_or, Some, None}
use Rattle.kfs_model.specs.Limits.{block_size}
use Rattle.kfs_model.specs.Table.{Table, numbers, pairs, get}
use Rattle.kfs_model.specs.Placement.{TierSizes, Place, tier_size}

-- the blocks that were written: from tier and place to the block's bytes
abbrev pub Devices : Type 0
Devices = Table (pairs numbers numbers) (List ℕ)

-- a byte of the block at this place; a block that was never written has zero bytes
abbrev pub byte_on : Devices → Place → (offset : ℕ) → ℕ
byte_on devices place offset = elim (get devices (place.tier, place.place)) [ None ↦ 0 | Some bytes ↦ get_or bytes offset 0 ]

-- each written block lies in its tier and has 4,096 bytes
pub record AreBlocks (sizes : TierSizes) (devices : Devices) : Type 0 where
  pub in_tier : (tier place : ℕ) (bytes : List ℕ) → get devices (tier, place) ≡ Some bytes → place < tier_size sizes tier
  pub full : (tier place : ℕ) (bytes : List ℕ) → get devices (tier, place) ≡ Some bytes → length bytes ≡ block_size
