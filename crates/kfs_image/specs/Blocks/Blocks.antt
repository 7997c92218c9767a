-- The blocks of files in contracts, and what a change makes of them.
use Rattle.std.specs.Prelude.{◌≡◌, ◌<◌, All, List, vec_len}
use Rattle.kfs_model.specs.Limits.{block_size}
use Rattle.kfs_model.specs.Table.{numbers, pairs}
use Rattle.kfs_model.specs.Placement.{TierSizes, Placement, tier_size, IsLaid}
use Rattle.kfs_model.specs.Device.Device.{Devices, AreBlocks}
use Rattle.kfs_maps.specs.Chunks.Edits.{KeysAscend}
use Rattle.kfs_maps.specs.Chunks.Tables.{table_after}
use Rattle.kfs_image.specs.declared.tier.tiers.NewBlock.{NewBlock}
use Rattle.kfs_image.specs.Tier.Tiers.{TiersShown, with_blocks}
use Rattle.kfs_image.specs.Tier.Unused.{FreeIsUnused}
use Rattle.kfs_image.specs.Blocks.Moves.{BlockEdit}

-- the tiers' sizes, the places of files' blocks, and the written blocks
pub record BlocksShown : Type 0 where
  pub sizes : TierSizes
  pub placement : Placement
  pub devices : Devices

-- a place is free exactly where no block lies, and each written block lies in its tier and is whole
pub record AreHeld (placement : Placement) (tiers : TiersShown) : Type 0 where
  pub unused : FreeIsUnused placement tiers
  pub laid : IsLaid tiers.sizes placement
  pub blocks : AreBlocks tiers.sizes tiers.devices

-- The edits ascend, and after them each place is in its tier and holds one block at most. The blocks to
-- be written lie in their tiers and are whole.
pub record CanChange {A : Type 0} (blocks : BlocksShown) (edits : List BlockEdit) (written : List (NewBlock A)) : Type 0 where
  pub ascend : KeysAscend (pairs numbers numbers).compare edits
  pub laid : IsLaid blocks.sizes (table_after blocks.placement edits)
  pub in_tier : All (λ b. b.place.place < tier_size blocks.sizes b.place.tier) written
  pub whole : All (λ b. vec_len b.bytes ≡ block_size) written

-- the blocks after the edits of their places, with these blocks written
abbrev pub changed : {A : Type 0} → List BlockEdit → List (NewBlock A) → BlocksShown → BlocksShown
changed edits written blocks = record { sizes = blocks.sizes; placement = table_after blocks.placement edits; devices = with_blocks written blocks.devices }
