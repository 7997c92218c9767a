-- An image as its format lists it: rows of nodes, names and extents, not yet checked.
use Rattle.std.specs.Prelude.{◌≡◌, ℕ, ◌+◌, ◌*◌, ◌<◌, ◌^◌, ◌==◌, ◌&&◌, nat_le, nat_lt, Bool, List, [], ◌∷◌, map, take, drop, Some}
use Rattle.std.specs.List.{flat_map, AllByRecursion}
use Rattle.kfs_model.specs.Header.{Header}
use Rattle.kfs_model.specs.Limits.{block_size}
use Rattle.kfs_model.specs.Table.{Order, Table, numbers, pairs, empty, insert, get}
use Rattle.kfs_model.specs.Tree.{NameTable, name_order}
use Rattle.kfs_model.specs.PlanRow.{NameRow}
use Rattle.kfs_model.specs.Plan.{keyed_name}
use Rattle.kfs_model.specs.Spelling.{IsName}
use Rattle.kfs_model.specs.Placement.{TierSizes, AreTierSizes, Place, Placement, below}
use Rattle.kfs_model.specs.Device.Device.{Devices}
use Rattle.kfs_model.specs.Device.ShownTree.{DeviceImage}

pub record RawNode : Type 0 where
  pub number : ℕ
  pub header : Header

-- an extent: blocks of a file in a row, at places of a tier in a row, with their bytes
pub record ExtentRow : Type 0 where
  pub number : ℕ
  pub block : ℕ
  pub tier : ℕ
  pub place : ℕ
  pub count : ℕ
  pub bytes : List ℕ

-- the version is that of the image's format
pub record RawImage : Type 0 where
  pub version : ℕ
  pub sizes : TierSizes
  pub nodes : List RawNode
  pub names : List NameRow
  pub extents : List ExtentRow

-- the sizes and rows can be encoded: no tier is larger than it may be, names are names, and uids and gids
-- fit 32 bits
pub record IsSpelled (raw : RawImage) : Type 0 where
  pub sizes : AreTierSizes raw.sizes
  pub names : AllByRecursion (λ (row : NameRow). IsName row.name) raw.names
  pub ids : AllByRecursion (λ (row : RawNode). (row.header.uid < 2 ^ 32) × (row.header.gid < 2 ^ 32)) raw.nodes

-- ---- what the rows make

-- the table with these entries; of entries with the same key, the first one
abbrev pub table_of : {K X : Type 0} (R : Order K) → List (K × X) → Table R X
table_of R [] = empty
table_of R (e ∷ es) = insert (table_of R es) e.0 e.1

abbrev pub node_entry : RawNode → ℕ × Header
node_entry row = (row.number, row.header)

abbrev pub heads_of : RawImage → Table numbers Header
heads_of raw = table_of numbers (map node_entry raw.nodes)

abbrev pub names_of : RawImage → NameTable
names_of raw = table_of name_order (map keyed_name raw.names)

-- the key and the place of the extent's block with this index
abbrev pub place_in : ExtentRow → (index : ℕ) → (ℕ × ℕ) × Place
place_in row index = ((row.number, row.block + index), record { tier = row.tier; place = row.place + index })

abbrev pub bytes_in : ExtentRow → (index : ℕ) → (ℕ × ℕ) × List ℕ
bytes_in row index = ((row.tier, row.place + index), take block_size (drop (index * block_size) row.bytes))

abbrev pub places_in : ExtentRow → List ((ℕ × ℕ) × Place)
places_in row = map (place_in row) (below row.count)

abbrev pub blocks_in : ExtentRow → List ((ℕ × ℕ) × List ℕ)
blocks_in row = map (bytes_in row) (below row.count)

abbrev pub placement_of : RawImage → Placement
placement_of raw = table_of (pairs numbers numbers) (flat_map places_in raw.extents)

abbrev pub devices_of : RawImage → Devices
devices_of raw = table_of (pairs numbers numbers) (flat_map blocks_in raw.extents)

abbrev pub image_of : RawImage → DeviceImage
image_of raw = record { sizes = raw.sizes; heads = heads_of raw; names = names_of raw; placement = placement_of raw; devices = devices_of raw }

-- ---- extents and their places

-- whether the place is in the extent
abbrev pub has_place : Place → ExtentRow → Bool
has_place place row = (row.tier == place.tier) && nat_le row.place place.place && nat_lt place.place (row.place + row.count)

-- each block of the extent lies where the extent says, with the extent's bytes
pub record IsLaidOut (raw : RawImage) (row : ExtentRow) : Type 0 where
  pub mapped : (index : ℕ) → index < row.count → get (placement_of raw) (place_in row index).0 ≡ Some (place_in row index).1
  pub written : (index : ℕ) → index < row.count → get (devices_of raw) (bytes_in row index).0 ≡ Some (bytes_in row index).1
