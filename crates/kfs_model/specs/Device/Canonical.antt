-- The canonical encoding of an image's state: of tier sizes, a tree and a placement. So equal states have equal
-- bytes.
use Rattle.std.specs.Prelude.{◌≡◌, ℕ, ◌+◌, ◌-◌, ◌*◌, ◌==◌, ◌&&◌, Bool, false, List, [], ◌∷◌, ◌++◌, length, map, take, drop, replicate, if◌then◌else◌}
use Rattle.kfs_model.specs.Limits.{block_size, latest_version}
use Rattle.kfs_model.specs.Table.{get}
use Rattle.kfs_model.specs.Tree.{Tree, headers, content_of}
use Rattle.kfs_model.specs.Placement.{TierSizes, Place, Placement}
use Rattle.kfs_model.specs.Device.ShownTree.{DeviceImage, shown_tree}
use Rattle.kfs_model.specs.Device.RawImage.{ExtentRow, RawImage}
use Rattle.kfs_model.specs.Device.Listed.{raw_node, name_row}
use Rattle.kfs_model.specs.Device.Spelling.{raw_image_bytes}

-- the bytes, with zero bytes behind them up to a block's length
abbrev pub filled_up : List ℕ → List ℕ
filled_up bytes = bytes ++ replicate (block_size - length bytes) 0

-- a block of a file: the file's bytes that it has, and zero bytes past the file's end
abbrev pub block_of : (content : List ℕ) → (block : ℕ) → List ℕ
block_of content block = filled_up (take block_size (drop (block * block_size) content))

-- the extent of one block of a file
abbrev pub block_extent : Tree ℕ → (ℕ × ℕ) × Place → ExtentRow
block_extent tree e = record { number = e.0.0; block = e.0.1; tier = e.1.tier; place = e.1.place; count = 1; bytes = block_of (content_of (get tree.nodes e.0.0)) e.0.1 }

-- whether the next extent begins where the row ends, in the file and on the device
abbrev pub goes_on : (row next : ExtentRow) → Bool
goes_on row next = (next.number == row.number) && (next.block == row.block + row.count) && (next.tier == row.tier) && (next.place == row.place + row.count)

-- the two extents as one
abbrev pub as_one : (row next : ExtentRow) → ExtentRow
as_one row next = record row { count = row.count + next.count; bytes = row.bytes ++ next.bytes }

-- the extents with this one in front: it is one with the first of them, if that one goes on from it
abbrev pub with_extent : ExtentRow → List ExtentRow → List ExtentRow
with_extent row [] = row ∷ []
with_extent row (next ∷ rows) = if goes_on row next then as_one row next ∷ rows else row ∷ next ∷ rows

-- the extents, where each that goes on from the one before it is one with that
unfoldable pub joined_extents : List ExtentRow → List ExtentRow
joined_extents [] = []
joined_extents (row ∷ rows) = with_extent row (joined_extents rows)

-- no extent goes on from the one before it
abbrev pub AreJoined : List ExtentRow → Type 0
AreJoined [] = Unit {0}
AreJoined (row ∷ []) = Unit {0}
AreJoined (row ∷ next ∷ rows) = (goes_on row next ≡ false) × AreJoined (next ∷ rows)

-- the extents of a placement, ascending by file and block
abbrev pub extents_of : Tree ℕ → Placement → List ExtentRow
extents_of tree placement = joined_extents (map (block_extent tree) placement.entries)

-- the rows of a state, of the latest version: nodes ascending, names ascending by directory and name,
-- extents as long as can be
abbrev pub canonical_rows : TierSizes → Tree ℕ → Placement → RawImage
canonical_rows sizes tree placement = record {
  version = latest_version;
  sizes = sizes;
  nodes = map raw_node (headers tree).entries;
  names = map name_row tree.names.entries;
  extents = extents_of tree placement;
}

-- the encoding of a state
abbrev pub canonical_bytes : TierSizes → Tree ℕ → Placement → List ℕ
canonical_bytes sizes tree placement = raw_image_bytes (canonical_rows sizes tree placement)

-- the encoding of what an image shows
abbrev pub image_bytes : DeviceImage → List ℕ
image_bytes image = canonical_bytes image.sizes (shown_tree image) image.placement
