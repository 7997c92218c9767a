-- How raw images are written as bytes, and what a decoder answers. Numbers are big-endian. There are
-- two versions. Each raw image has one encoding.
use Rattle.std.specs.Prelude.{◌≡◌, ◌≢◌, ℕ, zero, suc, ◌+◌, ◌*◌, ◌^◌, ◌<◌, ◌≤◌, List, [], ◌∷◌, ◌++◌, length, Some, Result, Ok, Err}
use Rattle.std.specs.List.{flat_map, AllByRecursion}
use Rattle.kfs_model.specs.Limits.{block_size, tier_limit}
use Rattle.kfs_model.specs.Spelling.{byte, number16, number32, number64, kind_bytes, IsVersion, IsHeader, IsNameRow, name_row_bytes, BeginsWithNo, BeginsWithRows, LacksRow}
use Rattle.kfs_model.specs.Placement.{TierSizes, AreTierSizes}
use Rattle.kfs_model.specs.Device.RawImage.{RawNode, ExtentRow, RawImage}

-- ---- rows

-- the encoding of a node: its number, kind, mode, uid, gid, links and size
abbrev pub raw_node_bytes : RawNode → List ℕ
raw_node_bytes row =
    number32 row.number ++ kind_bytes row.header.kind ++ number16 row.header.mode ++ number32 row.header.uid ++ number32 row.header.gid ++ number16 row.header.links ++ number64 row.header.size

-- each number fits its width
abbrev pub IsRawNode : RawNode → Type 0
IsRawNode row = (row.number < 2 ^ 32) × IsHeader (Some row.header)

-- the greatest number of a block of a file: a file has at most 2^32 bytes
abbrev pub greatest_block : ℕ
greatest_block = 1048575

-- the encoding of an extent: its file's number, its first block, its tier, its first place, the count of
-- its blocks, and their bytes
abbrev pub extent_bytes : ExtentRow → List ℕ
extent_bytes row = number32 row.number ++ number32 row.block ++ byte row.tier ++ number32 row.place ++ number32 row.count ++ row.bytes

-- the file's number fits its width; blocks, tier and place may exist; there is a block, there are no more
-- than a tier may have, and each has all its bytes
abbrev pub IsExtentRow : ExtentRow → Type 0
IsExtentRow row =
    (row.number < 2 ^ 32) × (row.block ≤ greatest_block) × (row.tier ≤ 2) × (row.place < tier_limit) × (1 ≤ row.count) × (row.count ≤ tier_limit) × (length row.bytes ≡ row.count * block_size)

-- ---- images

-- the header of an image: the version, the sizes of the tiers, and how many rows each part has
pub record ImageHeader : Type 0 where
  pub version : ℕ
  pub sizes : TierSizes
  pub nodes : ℕ
  pub names : ℕ
  pub extents : ℕ

-- the encoding of an image's header: "KIMG", the version, three sizes, three counts
abbrev pub image_header : ImageHeader → List ℕ
image_header h =
    75 ∷ 73 ∷ 77 ∷ 71 ∷ h.version ∷ number32 h.sizes.first ++ number32 h.sizes.second ++ number32 h.sizes.third ++ number32 h.nodes ++ number32 h.names ++ number32 h.extents

abbrev pub IsImageHeader : ImageHeader → Type 0
IsImageHeader h = IsVersion h.version × AreTierSizes h.sizes × (h.nodes < 2 ^ 32) × (h.names < 2 ^ 32) × (h.extents < 2 ^ 32)

abbrev pub image_header_of : RawImage → ImageHeader
image_header_of raw = record { version = raw.version; sizes = raw.sizes; nodes = length raw.nodes; names = length raw.names; extents = length raw.extents }

-- the encoding of a raw image: its header, nodes, names and extents
abbrev pub raw_image_bytes : RawImage → List ℕ
raw_image_bytes raw = image_header (image_header_of raw) ++ flat_map raw_node_bytes raw.nodes ++ flat_map name_row_bytes raw.names ++ flat_map extent_bytes raw.extents

abbrev pub IsRawImage : RawImage → Type 0
IsRawImage raw = IsImageHeader (image_header_of raw) × AllByRecursion IsRawNode raw.nodes × AllByRecursion IsNameRow raw.names × AllByRecursion IsExtentRow raw.extents

-- ---- what a decoder answers

-- why bytes are no raw image
pub data ImageSpellingFault : Type 0 where
  BadImageHeader ImageTrailing : ImageSpellingFault
  -- k rows of all three parts together were read, and no row follows
  BadImageRow : (k : ℕ) → ImageSpellingFault

-- all rows of the parts before this one stand behind the header, then k rows of this part, and then no
-- row; the parts are 0 nodes, 1 names, 2 extents
abbrev pub ImagePartLacksRow : ImageHeader → (part k : ℕ) → List ℕ → Type 0
ImagePartLacksRow h zero k rows = LacksRow IsRawNode raw_node_bytes h.nodes k rows
ImagePartLacksRow h (suc zero) k rows = (names : List ℕ) × BeginsWithRows IsRawNode raw_node_bytes h.nodes rows names × LacksRow IsNameRow name_row_bytes h.names k names
ImagePartLacksRow h (suc (suc zero)) k rows = (names extents : List ℕ) × BeginsWithRows IsRawNode raw_node_bytes h.nodes rows names × BeginsWithRows IsNameRow name_row_bytes h.names names extents × LacksRow IsExtentRow extent_bytes h.extents k extents
ImagePartLacksRow h (suc (suc (suc part))) k rows = ⊥

-- how many rows the parts before this one have
abbrev pub rows_before : ImageHeader → (part : ℕ) → ℕ
rows_before h zero = 0
rows_before h (suc zero) = h.nodes
rows_before h (suc (suc part)) = h.nodes + h.names

-- k rows of all three parts together stand behind the header, fewer than it counts, and no row follows
pub record LacksImageRow (h : ImageHeader) (k : ℕ) (rows : List ℕ) : Type 0 where
  pub part : ℕ
  pub in_part : ℕ
  pub counted : k ≡ rows_before h part + in_part
  pub lacks : ImagePartLacksRow h part in_part rows

-- the decoder's answer to these bytes, case by case: a raw image; one and more bytes; no header; a header
-- and k rows, then no row
abbrev pub ImageAnswer : List ℕ → Result RawImage ImageSpellingFault → Type 0
ImageAnswer bytes (Ok raw) = IsRawImage raw × (bytes ≡ raw_image_bytes raw)
ImageAnswer bytes (Err ImageTrailing) = (raw : RawImage) × (more : List ℕ) × IsRawImage raw × (more ≢ []) × (bytes ≡ raw_image_bytes raw ++ more)
ImageAnswer bytes (Err BadImageHeader) = BeginsWithNo IsImageHeader image_header bytes
ImageAnswer bytes (Err (BadImageRow k)) = (h : ImageHeader) × (rows : List ℕ) × IsImageHeader h × (bytes ≡ image_header h ++ rows) × LacksImageRow h k rows
