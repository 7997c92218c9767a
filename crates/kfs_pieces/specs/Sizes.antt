-- The sizes of files before and after a log, and the byte ranges that its entries change below the
-- sizes after.
use Rattle.std.specs.Prelude.{◌≡◌, ℕ, ◌+◌, ◌-◌, ◌<◌, ◌≤◌, ◌==◌, nat_lt, min, Bool, false, List, [], ◌∷◌, length, map, Option, Some, None, IfOk, IsTrue, if◌then◌else◌}
use Rattle.std.specs.List.{list_any, AllByRecursion}
use Rattle.kfs_model.specs.Access.{Client}
use Rattle.kfs_model.specs.Entry.{Entry, Create, Write, Truncate, Link, Unlink, Rename, Chmod, Regroup}
use Rattle.kfs_model.specs.LastCover.{file_size}
use Rattle.kfs_model.specs.Limits.{size_limit}
use Rattle.kfs_model.specs.Plan.{ArePieces}
use Rattle.kfs_model.specs.PlanRow.{Piece}
use Rattle.kfs_model.specs.Run.{Mark, run, over_marks, marked}
use Rattle.kfs_model.specs.Sight.{Sight, ClientSight, sight}
use Rattle.kfs_model.specs.Tree.{Tree}
use Rattle.kfs_types.specs.Views.{entry_of, IsWithin}
use Rattle.kfs_types.specs.declared.entry.Span.{Span}
use Rattle.kfs_types.specs.declared.entry.Entry.{Entry as CodeEntry}
use Rattle.kfs_types.specs.declared.entry.Entry.TheVariants as entries
use Rattle.kfs_pieces.specs.Made.{Reach, Overwrites, Cuts, ReachesNone}
use Rattle.kfs_pieces.specs.declared.log.FileSize.{FileSize}
use Rattle.kfs_pieces.specs.declared.merge.Origin.TheVariants.{Zero}
use Rattle.kfs_pieces.specs.declared.merge.ByteRange.{ByteRange}

-- the sizes ascend by file number, from `least` on, none twice
abbrev pub SizesAscend : (least : ℕ) → List FileSize → Type 0
SizesAscend least [] = Unit {0}
SizesAscend least (s ∷ ss) = (least ≤ s.number) × SizesAscend (s.number + 1) ss

-- the file's size after the log, 0 where it isn't listed
abbrev pub length_after : List FileSize → (number : ℕ) → ℕ
length_after [] number = 0
length_after (s ∷ ss) number = if s.number == number then s.after else length_after ss number

-- no size after the log is over the greatest
abbrev pub IsSize : FileSize → Type 0
IsSize s = s.after ≤ size_limit

-- the range between a file's sizes before and after
abbrev pub growth_of : FileSize → ByteRange
growth_of s = record { number = s.number; start = s.before; end = s.after; origin = Zero }

-- the ranges by which files grew
abbrev pub growths : List FileSize → List ByteRange
growths [] = []
growths (s ∷ ss) = if nat_lt s.before s.after then growth_of s ∷ growths ss else growths ss

-- which bytes an entry of the code reaches
abbrev pub reach_in : CodeEntry Span (List ℕ) → Reach
reach_in (entries.Write n offset p) = Overwrites n offset (p.end - p.start)
reach_in (entries.Truncate n size) = Cuts n size
reach_in (entries.Create d m n k mode) = ReachesNone
reach_in (entries.Link n d m) = ReachesNone
reach_in (entries.Unlink d m k) = ReachesNone
reach_in (entries.Rename d m e k) = ReachesNone
reach_in (entries.Chmod n mode) = ReachesNone
reach_in (entries.Regroup n group) = ReachesNone

-- whether the entry is a Write or a Truncate of this file
abbrev pub reaches_file : (number : ℕ) → Entry → Bool
reaches_file number (Write n offset payload) = number == n
reaches_file number (Truncate n size) = number == n
reaches_file number (Create d m n kind mode) = false
reaches_file number (Link n d m) = false
reaches_file number (Unlink d m kind) = false
reaches_file number (Rename d m e k) = false
reaches_file number (Chmod n mode) = false
reaches_file number (Regroup n group) = false

-- the sizes are right for the run, and each file is listed that grew, or that an entry reaches and is
-- there after the log
pub record AreSizes (tree : Tree ℕ) (entries : List Entry) (after : Tree Mark) (sizes : List FileSize) : Type 0 where
  pub own : AllByRecursion (λ (s : FileSize). (s.before ≡ file_size tree s.number) × (s.after ≡ file_size after s.number)) sizes
  pub grew : (n : ℕ) → file_size tree n < file_size after n → IsTrue (list_any (λ k. n == k) (map (λ (s : FileSize). s.number) sizes))
  pub reached : (n : ℕ) → IsTrue (list_any (reaches_file n) entries) → length_after sizes n ≡ file_size after n

-- the size in the header, 0 where there is none
abbrev pub size_in : Sight → ℕ → ℕ
size_in sight n = elim (sight.head n) [ None ↦ 0 | Some header ↦ header.size ]

-- the sizes are those before and after, the latter cut off at the greatest size, and each file is
-- listed that grew or that an entry reaches
pub record AreSizesBetween (before after : Sight) (entries : List Entry) (sizes : List FileSize) : Type 0 where
  pub own : AllByRecursion (λ (s : FileSize). (s.before ≡ size_in before s.number) × (s.after ≡ min (size_in after s.number) size_limit)) sizes
  pub grew : (n : ℕ) → size_in before n < size_in after n → IsTrue (list_any (λ k. n == k) (map (λ (s : FileSize). s.number) sizes))
  pub reached : (n : ℕ) → IsTrue (list_any (reaches_file n) entries) → IsTrue (list_any (λ k. n == k) (map (λ (s : FileSize). s.number) sizes))

-- the pieces are right, and the sizes of their files are these
pub record AreSwept (sizes : List FileSize) (after : Tree Mark) (pieces : List Piece) : Type 0 where
  pub right : ArePieces after pieces
  pub listed : AllByRecursion (λ (p : Piece). length_after sizes p.number ≡ file_size after p.number) pieces

-- the pieces are right for each run of the entries with these sizes
abbrev pub AreRightFor : List FileSize → List Entry → List Piece → Type 0
AreRightFor sizes entries pieces = (client : Client) (before : ClientSight) (tree : Tree ℕ) → before.sight ≡ sight tree
    → IfOk (run over_marks client before (marked tree) entries) (λ after. AreSizes tree entries after sizes → AreSwept sizes after pieces)

-- the same, whatever bytes the payloads are
abbrev pub AreRightFrom : List FileSize → List (CodeEntry Span (List ℕ)) → List Piece → Type 0
AreRightFrom sizes entries pieces = (source : List ℕ) → AllByRecursion (IsWithin (length source)) entries → AreRightFor sizes (map (entry_of source) entries) pieces
