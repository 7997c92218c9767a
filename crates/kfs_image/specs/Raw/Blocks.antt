-- The extents of a raw image, as blocks at places with bytes.
use Rattle.std.specs.Prelude.{◌≡◌, ℕ, ◌+◌, ◌*◌, ◌<◌, ◌^◌, List, length}
use Rattle.kfs_model.specs.Limits.{block_size}
use Rattle.kfs_model.specs.Placement.{Place}
use Rattle.kfs_model.specs.Device.RawImage.{RawImage, placement_of, devices_of}
use Rattle.kfs_image.specs.declared.codec.raw.ExtentRow.{ExtentRow as CodeExtentRow}
use Rattle.kfs_image.specs.Blocks.Blocks.{BlocksShown}
use Rattle.kfs_image.specs.declared.blocks.fill.BlockRow.{BlockRow}

-- the blocks that the extents place and write
abbrev pub blocks_of_raw : RawImage → BlocksShown
blocks_of_raw raw = record { sizes = raw.sizes; placement = placement_of raw; devices = devices_of raw }

module _ {A : Type 0} where
  -- the numbers of the extent's blocks and places fit 32 bits, and each block has its bytes
  pub record HasItsBlocks (row : CodeExtentRow A) : Type 0 where
    pub blocks : row.extent.block + row.extent.count < 2 ^ 32
    pub places : row.extent.place + row.extent.count < 2 ^ 32
    pub full : length row.bytes.items ≡ row.extent.count * block_size

  -- a row's block, and its place
  abbrev pub placed_row : BlockRow A → (ℕ × ℕ) × Place
  placed_row row = ((row.number, row.block), row.place)

  -- a row's place, and its bytes
  abbrev pub written_row : BlockRow A → (ℕ × ℕ) × List ℕ
  written_row row = ((row.place.tier, row.place.place), row.bytes.items)
