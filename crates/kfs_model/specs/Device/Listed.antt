-- The rows of an image: its nodes, its names, and for each block that lies somewhere an extent. An image
-- counts as one of the latest version.
use Rattle.std.specs.Prelude.{◌≡◌, ℕ, List, map}
use Rattle.kfs_model.specs.Header.{Header}
use Rattle.kfs_model.specs.Limits.{block_size, latest_version}
use Rattle.kfs_model.specs.PlanRow.{NameRow}
use Rattle.kfs_model.specs.Placement.{Place, below}
use Rattle.kfs_model.specs.Device.Device.{Devices, byte_on}
use Rattle.kfs_model.specs.Device.ShownTree.{DeviceImage, shown_tree}
use Rattle.kfs_model.specs.Device.RawImage.{RawNode, ExtentRow, RawImage, IsSpelled, heads_of, names_of, placement_of, image_of}
use Rattle.kfs_model.specs.Device.Finding.{IsWellFormed}

abbrev pub raw_node : ℕ × Header → RawNode
raw_node e = record { number = e.0; header = e.1 }

abbrev pub name_row : (ℕ × List ℕ) × ℕ → NameRow
name_row e = record { directory = e.0.0; name = e.0.1; number = e.1 }

-- the 4,096 bytes at a place
unfoldable pub block_bytes : Devices → Place → List ℕ
block_bytes devices place = map (byte_on devices place) (below block_size)

-- the extent of one block
abbrev pub extent_row : Devices → (ℕ × ℕ) × Place → ExtentRow
extent_row devices e = record { number = e.0.0; block = e.0.1; tier = e.1.tier; place = e.1.place; count = 1; bytes = block_bytes devices e.1 }

abbrev pub rows_of : DeviceImage → RawImage
rows_of image = record {
  version = latest_version;
  sizes = image.sizes;
  nodes = map raw_node image.heads.entries;
  names = map name_row image.names.entries;
  extents = map (extent_row image.devices) image.placement.entries;
}

-- the rows are well formed and give the image again, apart from device blocks that hold no block of a
-- file
pub record AreRowsOfImage (image : DeviceImage) (raw : RawImage) : Type 0 where
  pub spelled : IsSpelled raw
  pub well_formed : IsWellFormed raw
  pub heads : heads_of raw ≡ image.heads
  pub names : names_of raw ≡ image.names
  pub placement : placement_of raw ≡ image.placement
  pub tree : shown_tree (image_of raw) ≡ shown_tree image
