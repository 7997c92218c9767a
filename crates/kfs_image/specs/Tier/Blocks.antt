-- The blocks of a tier by place: blocks that were written, with their bytes, and blocks that only have
-- room.
use Rattle.std.specs.Prelude.{◌≡◌, ℕ, List, [], length, slice_index, Option, Some, None, IsSome, unwrap_or}
use Rattle.kfs_model.specs.Limits.{block_size}
use Rattle.kfs_model.specs.Table.{Table, numbers, get, insert, remove}

-- for each place that has room the bytes of its block, or none where the block was never written
abbrev pub BlockTable : Type 0
BlockTable = Table numbers (Option (List ℕ))

-- the bytes of the block, none where it was never written
abbrev pub block_at : BlockTable → (place : ℕ) → Option (List ℕ)
block_at blocks place = unwrap_or (get blocks place) None

-- a byte of the block; a block that was never written has zero bytes
abbrev pub byte_at : BlockTable → (place offset : ℕ) → ℕ
byte_at blocks place offset = slice_index (unwrap_or (block_at blocks place) []) offset

-- a block's bytes can be put at the place without taking memory
abbrev pub HasRoomForBlock : BlockTable → (place : ℕ) → Type 0
HasRoomForBlock blocks place = IsSome (get blocks place)

-- the same blocks, with room at the place
abbrev pub with_room : BlockTable → (place : ℕ) → BlockTable
with_room blocks place = insert blocks place (block_at blocks place)

-- the same blocks, without room at the place, if its block was never written
abbrev pub without_room : BlockTable → (place : ℕ) → BlockTable
without_room blocks place = elim (block_at blocks place) [ None ↦ remove blocks place | Some bytes ↦ blocks ]

-- the same blocks are written, with the same bytes
abbrev pub KeepsBlocks : (old new : BlockTable) → Type 0
KeepsBlocks old new = (place : ℕ) → block_at new place ≡ block_at old place

-- each block that was written has 4,096 bytes
pub record AreWhole (blocks : BlockTable) : Type 0 where
  pub whole : (place : ℕ) (bytes : List ℕ) → block_at blocks place ≡ Some bytes → length bytes ≡ block_size
