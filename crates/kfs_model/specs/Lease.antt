-- Leases on nodes: who holds what until when (Strata, leases: read shared, write exclusive).
use Rattle.std.specs.Prelude.{◌≡◌, ◌≢◌, ℕ, ◌+◌, ◌==◌, ◌&&◌, ◌||◌, not, nat_lt, nat_le, Bool, true, false, List, [], ◌∷◌, find, Option, Some, None, is_none, IsTrue, Result, Ok, Err, if◌then◌else◌}
use Rattle.std.specs.List.{list_all}
use Rattle.kfs_model.specs.Limits.{root_number}
use Rattle.kfs_model.specs.Access.{Client, Read, Write, Search, may_header, owns}
use Rattle.kfs_model.specs.Header.{Header}
use Rattle.kfs_model.specs.Table.{Table, numbers, pairs, get, insert, remove, retain, empty}
use Rattle.kfs_model.specs.Sight.{Sight, is_directory}
use Rattle.kfs_model.specs.Check.{is_some_and}
use Rattle.kfs_model.specs.Spelling.{is_name, slash}

pub data LeaseKind : Type 0 where
  ReadLease WriteLease : LeaseKind

pub record Lease : Type 0 where
  pub kind : LeaseKind
  pub end : ℕ

-- leases by client and node number
abbrev pub LeaseTable : Type 0
LeaseTable = Table (pairs numbers numbers) Lease

-- all leases, and the moment now
pub record Leases : Type 0 where
  pub rows : LeaseTable
  pub moment : ℕ

pub data LeaseFault : Type 0 where
  UnknownClient BadPath Past NoLeaseHeld Backwards NoSuchNode NotAllowed : LeaseFault
  NoSuchName NotDirectory NoSearch : (component : ℕ) → LeaseFault
  LeaseHeld : (client : ℕ) → LeaseFault
  deriving Discrete as LeaseFault-discrete

abbrev pub no_leases : Leases
no_leases = record { rows = empty; moment = 0 }

abbrev pub is_write : LeaseKind → Bool
is_write ReadLease = false
is_write WriteLease = true

abbrev pub is_live : (moment : ℕ) → Lease → Bool
is_live moment lease = nat_lt moment lease.end

-- the leases that are live at the moment
unfoldable pub live_at : (moment : ℕ) → LeaseTable → LeaseTable
live_at moment rows = retain (λ key. is_some_and (get rows key) (is_live moment)) rows

-- the leases on nodes whose numbers pass the test
unfoldable pub on_those : (ℕ → Bool) → LeaseTable → LeaseTable
on_those test rows = retain (λ key. test key.1) rows

-- whether the client holds a live write lease on the node
abbrev pub holds : Leases → (client number : ℕ) → Bool
holds leases client number = is_some_and (get leases.rows (client, number)) (λ lease. is_write lease.kind && is_live leases.moment lease)

abbrev pub row_of : List Client → ℕ → Option Client
row_of clients number = find (λ (c : Client). c.number == number) clients

-- ---- paths (POSIX.1-2017, XBD 4.13: from the root alone)

abbrev pub prepended : ℕ → List (List ℕ) → List (List ℕ)
prepended b [] = (b ∷ []) ∷ []
prepended b (part ∷ parts) = (b ∷ part) ∷ parts

-- the parts between the slashes
abbrev pub parts_of : List ℕ → List (List ℕ)
parts_of [] = [] ∷ []
parts_of (b ∷ bs) = if b == slash then [] ∷ parts_of bs else prepended b (parts_of bs)

-- the names of a path: a slash alone, or names with a slash before each
abbrev pub names_of : List ℕ → Option (List (List ℕ))
names_of [] = None
names_of (b ∷ []) = if b == slash then Some [] else None
names_of (b ∷ c ∷ rest) = if (b == slash) && list_all is_name (parts_of (c ∷ rest)) then Some (parts_of (c ∷ rest)) else None

-- the node that the names lead to from a directory; at each name the directory is checked, then its
-- search bit, then the name
unfoldable pub walked : Sight → Client → (node component : ℕ) → List (List ℕ) → Result ℕ LeaseFault
walked sight client node component [] = Ok node
walked sight client node component (name ∷ names) = elim (is_directory (sight.head node)) [
  | false ↦ Err (NotDirectory component)
  | true ↦ elim (is_some_and (sight.head node) (λ h. may_header client h Search)) [
    | false ↦ Err (NoSearch component)
    | true ↦ elim (sight.name node name) [ None ↦ Err (NoSuchName component) | Some next ↦ walked sight client next (component + 1) names ]
  ]
]

-- ---- permission for a lease by number

-- whether the client may have such a lease on a node without a path to it (POSIX.1-2017, XBD 4.5, and of
-- open() O_RDONLY and O_WRONLY): for reading it may read the node; for writing it may write it, or owns
-- it or is privileged, since an owner may always change the mode
abbrev pub may_lease : Client → LeaseKind → Header → Bool
may_lease client ReadLease h = may_header client h Read
may_lease client WriteLease h = owns client h.uid || may_header client h Write

-- ---- grant, drop and tick: each gives the answer and the leases afterwards; a refusal changes none

-- whether a lease of another client on the node conflicts with this one: one of the two is for writing,
-- and the other client's is live
abbrev pub conflicts : Leases → (client number : ℕ) → LeaseKind → ((ℕ × ℕ) × Lease) → Bool
conflicts leases client number kind row =
    (row.0.1 == number) && not (row.0.0 == client) && is_live leases.moment row.1 && (is_write kind || is_write row.1.kind)

-- the client has this lease on the node, and it is live
abbrev pub HasLive : Leases → (client number : ℕ) → Lease → Type 0
HasLive leases client number lease = (get leases.rows (client, number) ≡ Some lease) × IsTrue (is_live leases.moment lease)

-- no two live leases conflict: one that stands beside another client's on its node is for reading
abbrev pub AreCompatible : Leases → Type 0
AreCompatible leases = (client other number : ℕ) (one two : Lease) → client ≢ other → HasLive leases client number one → HasLive leases other number two → one.kind ≡ ReadLease

-- the conflicting lease of the client with the least number
abbrev pub in_conflict : Leases → (client number : ℕ) → LeaseKind → Option ((ℕ × ℕ) × Lease)
in_conflict leases client number kind = find (conflicts leases client number kind) leases.rows.entries

abbrev pub LeaseOutcome : Type 0
LeaseOutcome = Result ℕ LeaseFault × Leases

abbrev pub refused : LeaseFault → Leases → LeaseOutcome
refused fault leases = (Err fault, leases)

module _ (leases : Leases) where
  -- the grant, once the path has led to this node
  abbrev pub granted_at : Client → (number : ℕ) → LeaseKind → (end : ℕ) → LeaseOutcome
  granted_at client number kind end =
      if nat_le end leases.moment then refused Past leases
      else elim (in_conflict leases client.number number kind) [
        | Some row ↦ refused (LeaseHeld row.0.0) leases
        | None ↦ (Ok number, record leases { rows = insert leases.rows (client.number, number) (record { kind = kind; end = end }) })
      ]

  abbrev pub granted_by_walk : Result ℕ LeaseFault → Client → LeaseKind → (end : ℕ) → LeaseOutcome
  granted_by_walk (Err fault) client kind end = refused fault leases
  granted_by_walk (Ok number) client kind end = granted_at client number kind end

  abbrev pub granted_on : Sight → Option (List (List ℕ)) → Client → LeaseKind → (end : ℕ) → LeaseOutcome
  granted_on sight None client kind end = refused BadPath leases
  granted_on sight (Some names) client kind end = granted_by_walk (walked sight client root_number 0 names) client kind end

  -- the grant of a lease on the node at the path
  unfoldable pub granted : Sight → List Client → (client : ℕ) → (path : List ℕ) → LeaseKind → (end : ℕ) → LeaseOutcome
  granted sight clients number path kind end =
      elim (row_of clients number) [ None ↦ refused UnknownClient leases | Some client ↦ granted_on sight (names_of path) client kind end ]

  -- the grant of a lease on the node with this header
  abbrev pub granted_to_node : Option Header → Client → (number : ℕ) → LeaseKind → (end : ℕ) → LeaseOutcome
  granted_to_node None client number kind end = refused NoSuchNode leases
  granted_to_node (Some h) client number kind end = if may_lease client kind h then granted_at client number kind end else refused NotAllowed leases

  -- the grant of a lease on the node with this number: no path is walked and no search asked, as by a
  -- process that has the node open (POSIX.1-2017, XBD 4.13 asks search where a name is resolved)
  unfoldable pub granted_by_number : Sight → List Client → (client number : ℕ) → LeaseKind → (end : ℕ) → LeaseOutcome
  granted_by_number sight clients client number kind end =
      elim (row_of clients client) [ None ↦ refused UnknownClient leases | Some row ↦ granted_to_node (sight.head number) row number kind end ]

  unfoldable pub dropped : List Client → (client number : ℕ) → LeaseOutcome
  dropped clients client number =
      if is_none (row_of clients client) then refused UnknownClient leases
      else if is_none (get leases.rows (client, number)) then refused NoLeaseHeld leases
      else (Ok number, record leases { rows = remove leases.rows (client, number) })

  -- the moment goes on to this one, and leases that are no longer live are removed
  unfoldable pub ticked : (moment : ℕ) → LeaseOutcome
  ticked moment =
      if nat_lt moment leases.moment then refused Backwards leases
      else (Ok moment, record { rows = live_at moment leases.rows; moment = moment })

  -- the leases without those on numbers that are no node
  unfoldable pub without_gone : (ℕ → Bool) → Leases
  without_gone is_node = record { rows = on_those is_node leases.rows; moment = leases.moment }

-- the call leads from compatible leases to compatible leases
abbrev pub KeepsCompatible : (call : Leases → LeaseOutcome) → Type 0
KeepsCompatible call = (leases : Leases) → AreCompatible leases → AreCompatible (call leases).1
