-- The right plan of a log: the names and headers that differ, no others, and pieces that cover the
-- changed bytes.
use Rattle.std.specs.Prelude.{◌≡◌, ◌≢◌, ◌⊎◌, ℕ, ◌+◌, ◌<◌, ◌≤◌, ◌==◌, ◌&&◌, Bool, true, false, nat_lt, nat_le, List, [], ◌∷◌, map, Option, Some, None, IsTrue, slice_get, unwrap_or}
use Rattle.std.specs.List.{list_any, AllByRecursion}
use Rattle.std.specs.FinMap.Entries.{find, is_sorted}
use Rattle.kfs_model.specs.Header.{Header}
use Rattle.kfs_model.specs.Table.{Order, Table, numbers, get}
use Rattle.kfs_model.specs.Tree.{Tree, NameTable, headers, name_order, content_of}
use Rattle.kfs_model.specs.Run.{Mark}
use Rattle.kfs_model.specs.PlanRow.{NameRow, NodeRow, Piece, Source, Zero, Payload, Plan}

-- the rows ascend by key; there is a row for each key at which before and after differ, with the value
-- from after, and no other row
pub record AreDifferences {K X Y : Type 0} (R : Order K) (now : Option X → Y) (before after : K → Option X) (rows : List (K × Y)) : Type 0 where
  pub ascending : IsTrue (is_sorted R.compare rows)
  pub changed : (key : K) → before key ≢ after key → find R.compare key rows ≡ Some (now (after key))
  pub unchanged : (key : K) → before key ≡ after key → find R.compare key rows ≡ None

-- the number that a name leads to, 0 for none
abbrev pub number_now : Option ℕ → ℕ
number_now number = unwrap_or number 0

abbrev pub header_now : Option Header → Option Header
header_now h = h

abbrev pub keyed_name : NameRow → (ℕ × List ℕ) × ℕ
keyed_name row = ((row.directory, row.name), row.number)

abbrev pub keyed_node : NodeRow → ℕ × Option Header
keyed_node row = (row.number, row.now)

abbrev pub AreNameRows : NameTable → NameTable → List NameRow → Type 0
AreNameRows before after rows = AreDifferences name_order number_now (get before) (get after) (map keyed_name rows)

abbrev pub AreNodeRows : Table numbers Header → Table numbers Header → List NodeRow → Type 0
AreNodeRows before after rows = AreDifferences numbers header_now (get before) (get after) (map keyed_node rows)

-- ---- pieces

-- the mark of a byte of a file, none where there is no such byte
abbrev pub mark_at : Tree Mark → (number place : ℕ) → Option Mark
mark_at t number place = slice_get (content_of (get t.nodes number)) place

-- each byte from before the log is in the file, and at the place, where it was
abbrev pub OldBytesStay : Tree Mark → Type 0
OldBytesStay after = (number place n p : ℕ) → mark_at after number place ≡ Some (Mark.Base n p) → (n ≡ number) × (p ≡ place)

-- the mark that a source gives the byte at this distance from the piece's start
abbrev pub mark_of_source : Source → (distance : ℕ) → Mark
mark_of_source Zero distance = Mark.Zero
mark_of_source (Payload entry place) distance = Mark.Payload entry (place + distance)

-- whether the byte is as it was before the log
abbrev pub is_base : Mark → Bool
is_base (Mark.Base number place) = true
is_base Mark.Zero = false
is_base (Mark.Payload entry place) = false

abbrev pub end_of : Piece → ℕ
end_of p = p.start + p.length

abbrev pub covers : (number place : ℕ) → Piece → Bool
covers number place p = (p.number == number) && nat_le p.start place && nat_lt place (end_of p)

-- the first place comes before the second or is the same; places are ordered by file number and then by
-- place
abbrev pub ComesBy : (number place other_number other_place : ℕ) → Type 0
ComesBy n p m q = (n < m) ⊎ ((n ≡ m) × (p ≤ q))

-- q begins where p ends, or later
abbrev pub IsBehind : Piece → Piece → Type 0
IsBehind p q = ComesBy p.number (end_of p) q.number q.start

abbrev pub PiecesAscend : List Piece → Type 0
PiecesAscend [] = Unit {0}
PiecesAscend (p ∷ []) = Unit {0}
PiecesAscend (p ∷ q ∷ rest) = IsBehind p q × PiecesAscend (q ∷ rest)

-- the piece isn't empty, and each of its bytes lies in the file and has the mark that the piece says
pub record IsTrueOf (after : Tree Mark) (p : Piece) : Type 0 where
  pub filled : 0 < p.length
  pub said : (distance : ℕ) → distance < p.length → mark_at after p.number (p.start + distance) ≡ Some (mark_of_source p.source distance)

pub record ArePieces (after : Tree Mark) (pieces : List Piece) : Type 0 where
  pub ascending : PiecesAscend pieces
  pub said : AllByRecursion (IsTrueOf after) pieces
  pub covered : (number place : ℕ) (mark : Mark) → mark_at after number place ≡ Some mark → is_base mark ≡ false → IsTrue (list_any (covers number place) pieces)

pub record IsRight {B : Type 0} (before : Tree B) (after : Tree Mark) (plan : Plan) : Type 0 where
  pub names : AreNameRows before.names after.names plan.names
  pub nodes : AreNodeRows (headers before) (headers after) plan.nodes
  pub pieces : ArePieces after plan.pieces
