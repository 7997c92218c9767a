-- An image over device blocks, and the tree that it shows.
use Rattle.std.specs.Prelude.{ℕ, ◌/◌, ◌%◌, List, map, Some, None}
use Rattle.kfs_model.specs.Header.{Header}
use Rattle.kfs_model.specs.Limits.{block_size}
use Rattle.kfs_model.specs.Table.{Table, numbers, get}
use Rattle.kfs_model.specs.Tree.{Tree, NameTable, tree_over}
use Rattle.kfs_model.specs.Soundness.{IsSoundOver}
use Rattle.kfs_model.specs.Placement.{TierSizes, AreTierSizes, Placement, IsPlacement, below}
use Rattle.kfs_model.specs.Device.Device.{Devices, AreBlocks, byte_on}

-- an image: headers, names, where the blocks of files lie, and the bytes on the devices
pub record DeviceImage : Type 0 where
  pub sizes : TierSizes
  pub heads : Table numbers Header
  pub names : NameTable
  pub placement : Placement
  pub devices : Devices

-- a byte of a file: the byte at its block's place, or 0 where the block isn't mapped
abbrev pub file_byte : Placement → Devices → (number position : ℕ) → ℕ
file_byte placement devices number position =
    elim (get placement (number, position / block_size)) [ None ↦ 0 | Some place ↦ byte_on devices place (position % block_size) ]

-- the bytes of a file of this size
abbrev pub file_bytes : Placement → Devices → (number size : ℕ) → List ℕ
file_bytes placement devices number size = map (file_byte placement devices number) (below size)

-- the tree that an image shows: its nodes with the bytes of their blocks, and its names
abbrev pub shown_tree : DeviceImage → Tree ℕ
shown_tree image = tree_over (file_bytes image.placement image.devices) image.heads image.names

-- the tiers are no larger than they may be; the tree is sound, and its headers are the image's; each block
-- has a place of its own, within a tier; devices hold whole blocks
pub record IsLawful (image : DeviceImage) : Type 0 where
  pub sizes : AreTierSizes image.sizes
  pub tree : IsSoundOver image.heads (shown_tree image)
  pub placed : IsPlacement image.sizes (get image.heads) image.placement
  pub blocks : AreBlocks image.sizes image.devices
