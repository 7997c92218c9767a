-- The blocks that one piece writes, and counts of blocks.
use Rattle.std.specs.Prelude.{◌≡◌, ℕ, ◌+◌, ◌-◌, ◌/◌, ◌%◌, ◌==◌, ◌||◌, ◌++◌, nat_le, Bool, List, [], ◌∷◌, Option, Some, None, if◌then◌else◌}
use Rattle.kfs_model.specs.Limits.{block_size}
use Rattle.kfs_model.specs.PlanRow.{Piece, Source}
use Rattle.kfs_model.specs.Plan.{end_of}
use Rattle.kfs_pieces.specs.TouchedBlocks.{BlockInterval, block_of, counted}
use Rattle.kfs_pieces.specs.declared.blocks.Count.{Count}
use Rattle.kfs_pieces.specs.declared.touched.Touched.{Touched}

-- One piece of a file of this size. Zero bytes ended last at `until`, and they go on behind the piece
-- or not.
module _ (size until : ℕ) (goes_on : Bool) (p : Piece) where
  abbrev pub of_source : Source → List BlockInterval
  of_source Source.Zero = (if (p.start % block_size == 0) || (p.start == until) then [] else block_of p.start ∷ []) ++ (if (end_of p % block_size == 0) || nat_le size (end_of p) || goes_on then [] else block_of (end_of p) ∷ [])
  of_source (Source.Payload entry place) = record { first = p.start / block_size; last = (end_of p - 1) / block_size } ∷ []

  abbrev pub piece_blocks : List BlockInterval
  piece_blocks = of_source p.source

-- the blocks of a run of the code's, if there is one
abbrev pub blocks_in : Option Touched → List BlockInterval
blocks_in None = []
blocks_in (Some touched) = record { first = touched.first; last = touched.last } ∷ []

-- The second count has these blocks added: with whatever blocks come later, both lead to the same
-- count.
abbrev pub HasCounted : (before : Count) → List BlockInterval → (after : Count) → Type 0
HasCounted before blocks after = (rest : List BlockInterval) → after.total + counted after.next rest ≡ before.total + counted before.next (blocks ++ rest)

-- where the zero bytes of a piece end; 0 for a payload's piece
abbrev pub zeros_until : Piece → ℕ
zeros_until p = of_kind p.source
  where
    of_kind : Source → ℕ
    of_kind Source.Zero = end_of p
    of_kind (Source.Payload entry place) = 0
