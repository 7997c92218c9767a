-- Rows that are to go with what both indexes have of them, and what is left without them.
use Rattle.std.specs.Prelude.{◌≡◌, ◌≢◌, ℕ, ◌<◌, ◌≤◌, true, List, Option, Some, None, IsSome}
use Rattle.std.specs.Borrow.{MutBor}
use Rattle.std.specs.FinMap.Entries.{find}
use Rattle.std.specs.declared.ops.Bound.{Bound}
use Rattle.std.specs.declared.ops.Bound.TheVariants.{Included, Excluded}
use Rattle.kfs_model.specs.Table.{Order, Table, get, changed}
use Rattle.kfs_maps.specs.Chunks.Overlays.{overlaid}
use Rattle.kfs_maps.specs.Chunks.Starts.{is_from}
use Rattle.kfs_lease.specs.declared.rows.rows.Ending.{Ending}
use Rattle.kfs_lease.specs.declared.rows.rows.RowEnd.{RowEnd}
use Rattle.kfs_lease.specs.declared.rows.rows.Lease.{Lease}
use Rattle.kfs_lease.specs.declared.rows.rows.LeaseRows.{LeaseRows}
use Rattle.kfs_lease.specs.Rows.Rows.{by_node, by_end, row_end, RowTable, EndTable, ClientTable, AreEndsOf, AreKeysOf, row_table, end_table, client_table}

module _ {K X : Type 0} {R : Order K} where
  -- what the second table has at a key, the first one has there, too
  abbrev pub HasPart : (table part : Table R X) → Type 0
  HasPart table part = (key : K) (value : X) → get part key ≡ Some value → get table key ≡ Some value

-- rows, ends and turned keys that are left: the ends and the keys are those of the rows, and all rows and ends were there before
pub record AreLeft (rows : RowTable) (ends : EndTable) (rows_left : RowTable) (ends_left : EndTable) (clients_left : ClientTable) : Type 0 where
  pub exact : AreEndsOf rows_left ends_left
  pub clients : AreKeysOf rows_left clients_left
  pub rows_part : HasPart rows rows_left
  pub ends_part : HasPart ends ends_left

module _ {A : Type 0} where
  -- the rows without those that are to go
  abbrev pub rows_left : LeaseRows A → Ending A → RowTable
  rows_left rows ending = overlaid (row_table rows) ending.rows.latest.entries

  -- their ends
  abbrev pub ends_left : LeaseRows A → Ending A → EndTable
  ends_left rows ending = overlaid (end_table rows) ending.ends.latest.entries

  -- their turned keys
  abbrev pub clients_left : LeaseRows A → Ending A → ClientTable
  clients_left rows ending = overlaid (client_table rows) ending.of_clients.latest.entries

  -- each row that is to go has its end and its turned key listed, and nothing else is
  abbrev pub AreListed : LeaseRows A → Ending A → Type 0
  AreListed rows ending = AreLeft (row_table rows) (end_table rows) (rows_left rows ending) (ends_left rows ending) (clients_left rows ending)

  -- an ending with one more: whatever the rows were, they are left without this one, the ends without its end, and the turned keys
  -- without its key
  abbrev pub AddsRow : (key : ℕ × ℕ) → (before after : Ending A) → Type 0
  AddsRow key before after = (t : RowTable) → overlaid t after.rows.latest.entries ≡ changed (overlaid t before.rows.latest.entries) key None

  abbrev pub AddsEnd : RowEnd → (before after : Ending A) → Type 0
  AddsEnd end before after = (t : EndTable) → overlaid t after.ends.latest.entries ≡ changed (overlaid t before.ends.latest.entries) end None

  abbrev pub AddsOfClient : (key : ℕ × ℕ) → (before after : Ending A) → Type 0
  AddsOfClient key before after = (t : ClientTable) → overlaid t after.of_clients.latest.entries ≡ changed (overlaid t before.of_clients.latest.entries) (key.1, key.0) None

-- where the entries begin whose keys have this first part, behind a second part, or all of them
abbrev pub start_on : (first : ℕ) → (after : Option ℕ) → Bound (ℕ × ℕ)
start_on first None = Included (first, 0)
start_on first (Some second) = Excluded (first, second)

-- no entry with this first part comes from there on
abbrev pub NoneOn : {V : Type 0} → List ((ℕ × ℕ) × V) → (first : ℕ) → (after : Option ℕ) → Type 0
NoneOn entries first after = (second : ℕ) → is_from by_node.compare (start_on first after) (first, second) ≡ true → find by_node.compare (first, second) entries ≡ None

-- no other client than this one has a lease on the node
abbrev pub NoOtherOn : List ((ℕ × ℕ) × Lease) → (node client : ℕ) → Type 0
NoOtherOn leases node client = (c : ℕ) → c ≢ client → find by_node.compare (node, c) leases ≡ None

-- the other client has this lease on the node, and no lesser other one has a lease there
pub record IsFirstOther (leases : List ((ℕ × ℕ) × Lease)) (node client other : ℕ) (lease : Lease) : Type 0 where
  pub found : find by_node.compare (node, other) leases ≡ Some lease
  pub apart : other ≢ client
  pub least : (c : ℕ) → c ≢ client → IsSome (find by_node.compare (node, c) leases) → other ≤ c

-- each end from the start on is above the moment
abbrev pub AreLater : List (RowEnd × Unit {0}) → Bound RowEnd → (moment : ℕ) → Type 0
AreLater ends start moment = (end : ℕ) (key : ℕ × ℕ) → is_from by_end.compare start (row_end end key) ≡ true → IsSome (find by_end.compare (row_end end key) ends) → moment < end

-- this holds of a value that is lent, before and after, and the reference stays the same
abbrev pub HoldsOfLent : {X : Type 0} → (X → X → Type 0) → (before after : MutBor X) → Type 0
HoldsOfLent P before after = P before.now after.now × (after.ghost_name ≡ before.ghost_name)
