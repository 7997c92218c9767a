-- Lists of blocks: the blocks that the pieces of a file write, and the ranges of blocks that they make
-- all zero.
use Rattle.std.specs.Prelude.{◌≡◌, ℕ, ◌+◌, ◌-◌, ◌/◌, ◌<◌, ◌++◌, ◌==◌, ◌&&◌, max, nat_le, nat_lt, Bool, List, [], ◌∷◌, length, map, Some, if◌then◌else◌}
use Rattle.std.specs.List.{list_any}
use Rattle.kfs_pieces.specs.TouchedBlocks.{BlockInterval, goes_on, is_zero_source, of_file, touches}
use Rattle.kfs_model.specs.LastCover.{file_size}
use Rattle.kfs_model.specs.Limits.{block_size}
use Rattle.kfs_model.specs.Placement.{block_count, cleared_blocks, numbers_from}
use Rattle.kfs_model.specs.Plan.{end_of}
use Rattle.kfs_model.specs.PlanRow.{Piece}
use Rattle.kfs_model.specs.Run.{Mark}
use Rattle.kfs_model.specs.Tree.{Tree, Node, content_of}
use Rattle.kfs_pieces.specs.declared.blocks.BlockRange.{BlockRange}

-- the blocks in the ranges, from `next` on, each listed once
unfoldable pub listed : (next : ℕ) → List BlockInterval → List ℕ
listed next [] = []
listed next (r ∷ rs) = numbers_from (max r.first next) (r.last + 1 - max r.first next) ++ listed (max next (r.last + 1)) rs

-- The second list has these blocks added: with whatever blocks come later, both lead to the same list.
abbrev pub HasListed : (before : List ℕ) (next : ℕ) → List BlockInterval → (after : List ℕ) (later : ℕ) → Type 0
HasListed before next blocks after later = (rest : List BlockInterval) → after ++ listed later rest ≡ before ++ listed next (blocks ++ rest)

abbrev pub is_in_range : (block : ℕ) → BlockRange → Bool
is_in_range block range = nat_le range.first block && nat_lt block range.end

-- the block after those that end by this position; a file's last block, which may be short, ends with
-- the file
abbrev pub whole_until : (size end : ℕ) → ℕ
whole_until size end = if nat_le size end then block_count size else end / block_size

-- the range of blocks that lie whole between two positions, if there are any
abbrev pub blocks_between : (size start end : ℕ) → List BlockRange
blocks_between size start end =
    if nat_lt (block_count start) (whole_until size end) then record { first = block_count start; end = whole_until size end } ∷ [] else []

-- where a piece's zero bytes begin; for a payload's piece, where the piece ends
abbrev pub zeros_start : Piece → ℕ
zeros_start p = if is_zero_source p.source then p.start else end_of p

-- The blocks that are all zero, where zero bytes begin at `start` and reach to `end`, at which the
-- pieces begin. Zero pieces that follow on each other count as one run of zero bytes.
unfoldable pub cleared_from : (size start end : ℕ) → List Piece → List BlockRange
cleared_from size start end [] = blocks_between size start end
cleared_from size start end (r ∷ rs) =
    if goes_on end (r ∷ rs)
    then cleared_from size start (end_of r) rs
    else blocks_between size start end ++ cleared_from size (zeros_start r) (end_of r) rs

-- the blocks whose bytes, in a file of this size, are all in zero pieces
abbrev pub cleared_runs : (size : ℕ) → List Piece → List BlockRange
cleared_runs size pieces = cleared_from size 0 0 pieces

-- the blocks that the pieces of this node write, with its number
abbrev pub node_written : List Piece → ℕ × Node Mark → List (ℕ × ℕ)
node_written pieces entry = map (λ block. (entry.0, block)) (listed 0 (touches (length (content_of (Some entry.1))) 0 (of_file entry.0 pieces)))

-- the log makes a block of this file all zero exactly where the block is in a range that the file's
-- pieces clear
abbrev pub IsClearedInRanges : (after : Tree Mark) → List Piece → (number : ℕ) → Type 0
IsClearedInRanges after pieces number = (block : ℕ) → block < block_count (file_size after number)
    → list_any (λ other. (other.0 == number) && (other.1 == block)) (cleared_blocks after) ≡ list_any (is_in_range block) (cleared_runs (file_size after number) (of_file number pieces))
