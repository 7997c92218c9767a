-- Which blocks a log writes, computed from the pieces alone, without looking at bytes.
use Rattle.std.specs.Prelude.{ℕ, ◌+◌, ◌-◌, ◌/◌, ◌%◌, ◌==◌, ◌++◌, ◌&&◌, ◌||◌, nat_le, max, Bool, true, false, List, [], ◌∷◌, length, filter, Some, if◌then◌else◌}
use Rattle.kfs_model.specs.Limits.{block_size}
use Rattle.kfs_model.specs.Tree.{Node, content_of}
use Rattle.kfs_model.specs.Run.{Mark}
use Rattle.kfs_model.specs.PlanRow.{Piece, Source}
use Rattle.kfs_model.specs.Plan.{end_of}

-- blocks from the first to the last, both included
pub record BlockInterval : Type 0 where
  pub first : ℕ
  pub last : ℕ

-- how many blocks from `next` on lie in the ranges; a block in two ranges is counted once
unfoldable pub counted : (next : ℕ) → List BlockInterval → ℕ
counted next [] = 0
counted next (r ∷ rs) = (r.last + 1 - max r.first next) + counted (max next (r.last + 1)) rs

abbrev pub is_zero_source : Source → Bool
is_zero_source Source.Zero = true
is_zero_source (Source.Payload entry place) = false

-- whether the next piece is of zero bytes and starts at this place
abbrev pub goes_on : (place : ℕ) → List Piece → Bool
goes_on place [] = false
goes_on place (r ∷ rs) = is_zero_source r.source && (r.start == place)

-- the block that has this byte
abbrev pub block_of : (place : ℕ) → BlockInterval
block_of place = record { first = place / block_size; last = place / block_size }

-- The blocks that the pieces of one file write; the last zero piece ended at `until`. These are the
-- blocks of payloads, and the blocks in which zero bytes begin or end next to other bytes.
unfoldable pub touches : (size until : ℕ) → List Piece → List BlockInterval
touches size until [] = []
touches size until (r ∷ rs) =
    if is_zero_source r.source
    then (if (r.start % block_size == 0) || (r.start == until) then [] else block_of r.start ∷ [])
    ++ ((if (end_of r % block_size == 0) || nat_le size (end_of r) || goes_on (end_of r) rs then [] else block_of (end_of r) ∷ []) ++ touches size (end_of r) rs)
    else record { first = r.start / block_size; last = (end_of r - 1) / block_size } ∷ touches size 0 rs

-- the pieces of one file
abbrev pub of_file : (number : ℕ) → List Piece → List Piece
of_file number pieces = filter (λ r. r.number == number) pieces

-- how many blocks of this node the pieces write
abbrev pub node_blocks : List Piece → ℕ × Node Mark → ℕ
node_blocks pieces entry = counted 0 (touches (length (content_of (Some entry.1))) 0 (of_file entry.0 pieces))

-- the same, added up over all nodes
unfoldable pub counted_files : List Piece → List (ℕ × Node Mark) → ℕ
counted_files pieces [] = 0
counted_files pieces (entry ∷ entries) = node_blocks pieces entry + counted_files pieces entries
