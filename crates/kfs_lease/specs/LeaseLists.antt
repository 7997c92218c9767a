-- Leases as a list of rows, ascending by node and client: which lists a lawful table has.
use Rattle.std.specs.Prelude.{◌≡◌, ℕ, ◌<◌, ◌≤◌, ◌==◌, ◌&&◌, ◌||◌, not, nat_le, nat_lt, Bool, true, false, List, [], ◌∷◌, ◌++◌, filter, length, Option, Some, None, is_none, is_some, IsTrue, if◌then◌else◌}
use Rattle.std.specs.List.{list_all, list_any}
use Rattle.kfs_model.specs.Access.{Client}
use Rattle.kfs_model.specs.FirstAnswer.{first_answer}
use Rattle.kfs_model.specs.Header.{Header}
use Rattle.kfs_model.specs.Judgement.{State}
use Rattle.kfs_model.specs.Lease.{Lease, LeaseKind, LeaseTable, Leases, is_write, row_of}
use Rattle.kfs_model.specs.Machine.{IsRead, Row, next}
use Rattle.kfs_model.specs.Order.{IsInOrder}
use Rattle.kfs_model.specs.Table.{empty, get, insert}
use Rattle.kfs_model.specs.Tree.{headers}
use Rattle.kfs_lease.specs.InForce.{AreInForce}

pub record LeaseRow : Type 0 where
  pub number : ℕ
  pub client : ℕ
  pub kind : LeaseKind
  pub end : ℕ

-- why no lawful table has the row with this index
pub data LeaseRowFault : Type 0 where
  UnknownClient NoSuchNode Past NotAscending LeaseHeld : (index : ℕ) → LeaseRowFault

-- whether the one row comes before the other: by node, then by client
abbrev pub is_before : (one other : LeaseRow) → Bool
is_before one other = nat_lt one.number other.number || ((one.number == other.number) && nat_lt one.client other.client)

-- whether the rows are on one node, and one of them is for writing
abbrev pub bars : (one other : LeaseRow) → Bool
bars one other = (one.number == other.number) && (is_write one.kind || is_write other.kind)

-- whether the row comes behind the last one, if there is one
abbrev pub comes_behind : (last : Option LeaseRow) → LeaseRow → Bool
comes_behind None row = true
comes_behind (Some last) row = is_before last row

abbrev pub is_barred : (last : Option LeaseRow) → LeaseRow → Bool
is_barred None row = false
is_barred (Some last) row = bars last row

-- the last of the rows, if there is one
abbrev pub IsLast : List LeaseRow → Option LeaseRow → Type 0
IsLast rows None = rows ≡ []
IsLast rows (Some last) = (earlier : List LeaseRow) × (rows ≡ earlier ++ last ∷ [])

abbrev pub lease_in : LeaseRow → Lease
lease_in row = record { kind = row.kind; end = row.end }

abbrev pub listed_table : List LeaseRow → LeaseTable
listed_table [] = empty
listed_table (row ∷ rows) = insert (listed_table rows) (row.client, row.number) (lease_in row)

abbrev pub listed_leases : (moment : ℕ) → List LeaseRow → Leases
listed_leases moment rows = record { rows = listed_table rows; moment = moment }

module _ (clients : List Client) (heads : ℕ → Option Header) where
  -- why the row can't follow the earlier ones
  abbrev pub fault_of_row : (moment : ℕ) → (earlier : List LeaseRow) → LeaseRow → Option LeaseRowFault
  fault_of_row moment earlier row =
      if is_none (row_of clients row.client) then Some (UnknownClient (length earlier))
      else if is_none (heads row.number) then Some (NoSuchNode (length earlier))
      else if nat_le row.end moment then Some (Past (length earlier))
      else if not (list_all (λ other. is_before other row) earlier) then Some (NotAscending (length earlier))
      else if list_any (λ other. bars other row) earlier then Some (LeaseHeld (length earlier))
      else None

  -- the fault of the first row that has one
  abbrev pub fault_of_rows : (moment : ℕ) → List LeaseRow → Option LeaseRowFault
  fault_of_rows moment rows = first_answer (fault_of_row moment) rows

  -- the same where the earlier ones have no fault, and this is the last of them
  abbrev pub fault_behind : (moment index : ℕ) → (last : Option LeaseRow) → LeaseRow → Option LeaseRowFault
  fault_behind moment index last row =
      if is_none (row_of clients row.client) then Some (UnknownClient index)
      else if is_none (heads row.number) then Some (NoSuchNode index)
      else if nat_le row.end moment then Some (Past index)
      else if not (comes_behind last row) then Some (NotAscending index)
      else if is_barred last row then Some (LeaseHeld index)
      else None

  -- each lease is of a known client and on a node, and all are in force
  pub record AreLawful (leases : Leases) : Type 0 where
    pub known : (client number : ℕ) → IsTrue (is_some (get leases.rows (client, number))) → IsTrue (is_some (row_of clients client))
    pub on_nodes : (client number : ℕ) → IsTrue (is_some (get leases.rows (client, number))) → IsTrue (is_some (heads number))
    pub in_force : AreInForce leases

-- each row comes behind all before it
abbrev pub Ascend : List LeaseRow → Type 0
Ascend rows = (before : List LeaseRow) (row : LeaseRow) (rest : List LeaseRow) → rows ≡ before ++ row ∷ rest → list_all (λ other. is_before other row) before ≡ true

-- ---- the leases of one client

-- whether the row is the client's, on a node from this number on
abbrev pub is_own : (client first : ℕ) → LeaseRow → Bool
is_own client first row = (row.client == client) && nat_le first row.number

-- The rows are the client's on nodes from this number on, so many of them or all. `all` has all leases; there is one such list.
pub record AreFirstOf (leases : Leases) (client first at_most : ℕ) (rows : List LeaseRow) : Type 0 where
  pub all : List LeaseRow
  pub ascend : Ascend all
  pub same : listed_leases leases.moment all ≡ leases
  pub left : List LeaseRow
  pub parts : filter (is_own client first) all ≡ rows ++ left
  pub most : length rows ≤ at_most
  pub whole : length rows < at_most → left ≡ []

-- ---- laws

-- rows without a fault are those of a lawful table
abbrev pub FaultlessIsLawful : Type 0
FaultlessIsLawful = (clients : List Client) (heads : ℕ → Option Header) (moment : ℕ) (rows : List LeaseRow) → fault_of_rows clients heads moment rows ≡ None → AreLawful clients heads (listed_leases moment rows)

-- and ascending rows of a lawful table have no fault
abbrev pub LawfulIsFaultless : Type 0
LawfulIsFaultless =
    (clients : List Client) (heads : ℕ → Option Header) (moment : ℕ) (rows : List LeaseRow) → Ascend rows → AreLawful clients heads (listed_leases moment rows) → fault_of_rows clients heads moment rows ≡ None

-- ascending rows with one table are one list
abbrev pub AscendOnce : Type 0
AscendOnce = (rows others : List LeaseRow) → Ascend rows → Ascend others → listed_table rows ≡ listed_table others → rows ≡ others

-- leases that are listed have no fault, and come back
abbrev pub ListedComeBack : Type 0
ListedComeBack =
    (clients : List Client) (heads : ℕ → Option Header) (leases : Leases) (rows : List LeaseRow)
    → AreLawful clients heads leases → Ascend rows → listed_leases leases.moment rows ≡ leases → fault_of_rows clients heads leases.moment rows ≡ None

-- behind rows without a fault the last one decides
abbrev pub LastRowDecides : Type 0
LastRowDecides =
    (clients : List Client) (heads : ℕ → Option Header) (moment : ℕ) (rows : List LeaseRow) (last : Option LeaseRow) (row : LeaseRow)
    → fault_of_rows clients heads moment rows ≡ None → IsLast rows last → fault_of_row clients heads moment rows row ≡ fault_behind clients heads moment (length rows) last row

-- the state's leases are lawful for its clients and its tree
abbrev pub HasLawfulLeases : State → Type 0
HasLawfulLeases s = AreLawful s.clients (get (headers s.tree)) s.leases

-- a step from a state in order, with such leases, leads to one
abbrev pub StepsKeepLawful : Type 0
StepsKeepLawful = (s t : State) (row : Row) → IsInOrder s → IsRead row → HasLawfulLeases s → next s row ≡ Some t → HasLawfulLeases t
