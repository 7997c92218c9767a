-- What a log does to the bytes of files: the bytes of its payloads, its pieces laid over a block's
-- bytes, and the pieces that a block needs.
use Rattle.std.specs.Prelude.{◌≡◌, ℕ, ◌+◌, ◌<◌, ◌==◌, ◌&&◌, ◌||◌, nat_lt, nat_le, Bool, List, [], ◌∷◌, length, map, Some, None, slice_index, EachIndex, if◌then◌else◌}
use Rattle.std.specs.List.{AllByRecursion}
use Rattle.kfs_model.specs.Entry.{Entry}
use Rattle.kfs_model.specs.Plan.{mark_of_source, end_of, ComesBy}
use Rattle.kfs_model.specs.PlanCut.{mark_in_pieces}
use Rattle.kfs_model.specs.PlanRow.{Piece, Source}
use Rattle.kfs_model.specs.Run.{byte_at, byte_of}
use Rattle.kfs_model.specs.Table.{get}
use Rattle.kfs_model.specs.Tree.{Tree, content_of}
use Rattle.kfs_types.specs.Views.{entry_of, piece_of, IsWithin}
use Rattle.kfs_types.specs.declared.entry.Entry.{Entry as CodeEntry}
use Rattle.kfs_types.specs.declared.entry.Span.{Span}
use Rattle.kfs_desk.specs.declared.fill.bytes.Entries.{Entries}
use Rattle.kfs_desk.specs.declared.fill.bytes.Entries.TheVariants as kinds
use Rattle.kfs_desk.specs.declared.fill.bytes.LogBytes.{LogBytes}

-- the entries, however their names are held
abbrev pub entries_in : {A : Type 0} → Entries A → List (CodeEntry Span (List ℕ))
entries_in (kinds.Borrowed entries) = entries.now
entries_in (kinds.Kept entries) = entries.now

-- a log's entries, with the bytes of their payloads
abbrev pub entries_of : {A : Type 0} → LogBytes A → List Entry
entries_of log = map (entry_of log.source.now) (entries_in log.entries)

abbrev pub pieces_of : {A : Type 0} → LogBytes A → List Piece
pieces_of log = map piece_of log.pieces.now

-- each payload lies in the source
abbrev pub HasPayloads : {A : Type 0} → LogBytes A → Type 0
HasPayloads log = AllByRecursion (IsWithin (length log.source.now)) (entries_in log.entries)

-- these are the bytes of a file from position `start` on; behind its end they are 0
abbrev pub AreBytesOf : Tree ℕ → (number start : ℕ) → List ℕ → Type 0
AreBytesOf t number start bytes = EachIndex bytes (λ k. slice_index bytes k ≡ byte_at (content_of (get t.nodes number)) (start + k))

-- these are the bytes that a source gives, from `distance` bytes behind its piece's start on
abbrev pub AreGivenBy : List Entry → Source → (distance : ℕ) → List ℕ → Type 0
AreGivenBy entries source distance bytes =
    (before : Tree ℕ) → EachIndex bytes (λ k. slice_index bytes k ≡ byte_of before entries (mark_of_source source (distance + k)))

-- the byte of a file at a position, after the pieces are laid over the old byte
abbrev pub byte_over : Tree ℕ → List Entry → List Piece → (number position old : ℕ) → ℕ
byte_over before entries pieces number position old = elim (mark_in_pieces pieces number position) [ None ↦ old | Some mark ↦ byte_of before entries mark ]

-- the new bytes, of a file from `start` on, are the old ones with the pieces laid over
abbrev pub ArePut : List Entry → List Piece → (number start : ℕ) → (old new : List ℕ) → Type 0
ArePut entries pieces number start old new =
    (before : Tree ℕ) (k : ℕ) → k < length old → slice_index new k ≡ byte_over before entries pieces number (start + k) (slice_index old k)

-- these are the bytes of a file from `start` on once the pieces are laid over it, whatever stood there
abbrev pub ArePutOnAny : List Entry → List Piece → (number start : ℕ) → List ℕ → Type 0
ArePutOnAny entries pieces number start bytes =
    (before : Tree ℕ) (k old : ℕ) → k < length bytes → slice_index bytes k ≡ byte_over before entries pieces number (start + k) old

-- whether the piece ends at this byte of the file, or before it
abbrev pub ends_by : (number place : ℕ) → Piece → Bool
ends_by n q p = nat_lt p.number n || ((p.number == n) && nat_le (end_of p) q)

-- whether the piece begins before this byte of the file
abbrev pub begins_before : (number place : ℕ) → Piece → Bool
begins_before n q p = nat_lt p.number n || ((p.number == n) && nat_lt p.start q)

-- the pieces without those at the front that end by this byte
unfoldable pub reaching : (number place : ℕ) → List Piece → List Piece
reaching n q [] = []
reaching n q (p ∷ ps) = if ends_by n q p then reaching n q ps else p ∷ ps

-- the pieces at the front that begin before this byte
unfoldable pub beginning : (number place : ℕ) → List Piece → List Piece
beginning n q [] = []
beginning n q (p ∷ ps) = if begins_before n q p then p ∷ beginning n q ps else []

-- the blocks ascend by file number and block
abbrev pub BlocksAscend : List (ℕ × ℕ) → Type 0
BlocksAscend [] = Unit {0}
BlocksAscend (b ∷ []) = Unit {0}
BlocksAscend (b ∷ c ∷ rest) = ComesBy b.0 b.1 c.0 c.1 × BlocksAscend (c ∷ rest)
