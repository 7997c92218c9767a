-- The byte ranges that a log changes, and the pieces that they are.
use Rattle.std.specs.Prelude.{◌≡◌, ℕ, ◌+◌, ◌-◌, ◌<◌, ◌≤◌, ◌++◌, ◌==◌, min, List, [], ◌∷◌, length, map, Option, Some, None, IfOk, IsTrue}
use Rattle.std.specs.List.{list_any}
use Rattle.kfs_model.specs.Limits.{payload_limit, size_limit}
use Rattle.kfs_model.specs.Entry.{Entry, Create, Write, Truncate, Link, Unlink, Rename, Chmod, Regroup}
use Rattle.kfs_model.specs.Laws.{EachRun}
use Rattle.kfs_model.specs.LastCover.{file_size}
use Rattle.kfs_model.specs.Plan.{ArePieces}
use Rattle.kfs_model.specs.Run.{Mark, run, over_marks, marked}
use Rattle.kfs_model.specs.Sight.{sight}
use Rattle.kfs_model.specs.Tree.{Tree}
use Rattle.kfs_model.specs.PlanRow.{Piece, Source}
use Rattle.kfs_pieces.specs.declared.merge.Origin.{Origin}
use Rattle.kfs_pieces.specs.declared.merge.Origin.TheVariants.{Zero, Payload}
use Rattle.kfs_pieces.specs.declared.merge.ByteRange.{ByteRange}

-- the source of a piece that begins at this byte
abbrev pub source_at : Origin → (start : ℕ) → Source
source_at Zero start = Source.Zero
source_at (Payload entry offset) start = Source.Payload entry (start - offset)

abbrev pub piece_made : ByteRange → Piece
piece_made s = record { number = s.number; start = s.start; length = s.end - s.start; source = source_at s.origin s.start }

abbrev pub pieces_made : List ByteRange → List Piece
pieces_made [] = []
pieces_made (s ∷ ss) = piece_made s ∷ pieces_made ss

-- the payload begins at its offset, and has at most 65,536 bytes
abbrev pub IsPlacedAt : Origin → (start end : ℕ) → Type 0
IsPlacedAt Zero start end = Unit {0}
IsPlacedAt (Payload entry offset) start end = (offset ≤ start) × (end ≤ offset + payload_limit)

-- the range lies in a file of at most the greatest size, and in its entry's payload
pub record IsFit (s : ByteRange) : Type 0 where
  pub end : s.end ≤ size_limit
  pub placed : IsPlacedAt s.origin s.start s.end

-- which bytes of which file an entry reaches: so many from a place on, all from a size on, or none
pub data Reach : Type 0 where
  Overwrites : (number start count : ℕ) → Reach
  Cuts : (number size : ℕ) → Reach
  ReachesNone : Reach

abbrev pub reach_of : Entry → Reach
reach_of (Write n offset payload) = Overwrites n offset (length payload)
reach_of (Truncate n size) = Cuts n size
reach_of (Create d m n kind mode) = ReachesNone
reach_of (Link n d m) = ReachesNone
reach_of (Unlink d m kind) = ReachesNone
reach_of (Rename d m e k) = ReachesNone
reach_of (Chmod n mode) = ReachesNone
reach_of (Regroup n group) = ReachesNone

-- the range that the entry with this index so changes, cut off at its file's size after the log
abbrev pub range_of : (ends : ℕ → ℕ) → (index : ℕ) → Reach → Option ByteRange
range_of ends index (Overwrites n start count) = Some (record { number = n; start = start; end = min (start + count) (ends n); origin = Payload index start })
range_of ends index (Cuts n size) = Some (record { number = n; start = size; end = ends n; origin = Zero })
range_of ends index ReachesNone = None

abbrev pub put_before : Option ByteRange → List ByteRange → List ByteRange
put_before None ranges = ranges
put_before (Some range) ranges = range ∷ ranges

-- the ranges that entries with these reaches change; the first entry has this index
abbrev pub made : (ends : ℕ → ℕ) → (index : ℕ) → List Reach → List ByteRange
made ends index [] = []
made ends index (reach ∷ reaches) = put_before (range_of ends index reach) (made ends (index + 1) reaches)

-- the ranges by which files grew
unfoldable pub grown : (before ends : ℕ → ℕ) → (numbers : List ℕ) → List ByteRange
grown before ends [] = []
grown before ends (n ∷ ns) = record { number = n; start = before n; end = ends n; origin = Zero } ∷ grown before ends ns

-- the ranges that a run changed: first what files grew by, with all that grew listed, then what each
-- entry changes
pub record AreMade (tree : Tree ℕ) (entries : List Entry) (after : Tree Mark) (ranges : List ByteRange) : Type 0 where
  pub numbers : List ℕ
  pub grew : (n : ℕ) → file_size tree n < file_size after n → IsTrue (list_any (λ k. n == k) numbers)
  pub are : ranges ≡ grown (file_size tree) (file_size after) numbers ++ made (file_size after) 0 (map reach_of entries)

-- the pieces are right for the log of any run that changed these ranges
abbrev pub AreRightOf : List ByteRange → List Piece → Type 0
AreRightOf ranges pieces = EachRun (λ client before tree entries. before.sight ≡ sight tree
    → IfOk (run over_marks client before (marked tree) entries) (λ after. AreMade tree entries after ranges → ArePieces after pieces))
