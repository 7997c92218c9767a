-- The table of leases that the code's rows show, and how both indexes belong to them.
use Rattle.std.specs.Prelude.{◌≡◌, ℕ, Bool, ◌==◌, not, List, [], ◌∷◌, Option, option_map, is_some}
use Rattle.std.specs.Ordering.{on, then_cmp}
use Rattle.std.specs.Cmp.{on_total, then_total}
use Rattle.std.specs.FinMap.{IsAntisymmetric}
use Rattle.kfs_model.specs.Table.{Order, Table, numbers, pairs, pairs_exact, get, insert, empty}
use Rattle.kfs_model.specs.Check.{is_some_and}
use Rattle.kfs_model.specs.Lease as model
use Rattle.kfs_maps.specs.Chunks.Tables.{table}
use Rattle.kfs_lease.specs.declared.rows.rows.RowEnd.{RowEnd}
use Rattle.kfs_lease.specs.declared.rows.rows.LeaseKind.{LeaseKind}
use Rattle.kfs_lease.specs.declared.rows.rows.LeaseKind.TheVariants.{Read, Write}
use Rattle.kfs_lease.specs.declared.rows.rows.Lease.{Lease}
use Rattle.kfs_lease.specs.declared.rows.rows.LeaseRows.{LeaseRows}

abbrev pub kind_of : LeaseKind → model.LeaseKind
kind_of Read = model.ReadLease
kind_of Write = model.WriteLease

abbrev pub lease_of : Lease → model.Lease
lease_of lease = record { kind = kind_of lease.kind; end = lease.end }

-- the least other client whose live lease on the node keeps the client from one of this kind
abbrev pub conflicting : model.LeaseTable → (moment client number : ℕ) → model.LeaseKind → Option ℕ
conflicting rows moment client number kind = option_map (λ row. row.0.0) (model.in_conflict (record { rows = rows; moment = moment }) client number kind)

-- the order of rows: by node number, then by client
abbrev pub by_node : Order (ℕ × ℕ)
by_node = pairs numbers numbers

pub exact_ends : IsAntisymmetric (then_cmp (on (λ (e : RowEnd). e.end) numbers.compare) (on (λ (e : RowEnd). e.key) by_node.compare))
exact_ends x y same = let parts = pairs_exact numbers by_node (x.end, x.key) (y.end, y.key) same in λ i. record { end = (parts i).0; key = (parts i).1 }

-- the order of ends: by moment, then by the row's key
abbrev pub by_end : Order RowEnd
by_end = record {
  compare = then_cmp (on (λ (e : RowEnd). e.end) numbers.compare) (on (λ (e : RowEnd). e.key) by_node.compare);
  total = then_total (on_total (λ (e : RowEnd). e.end) numbers.total) (on_total (λ (e : RowEnd). e.key) by_node.total);
  exact = exact_ends;
}

abbrev pub row_end : (end : ℕ) → (key : ℕ × ℕ) → RowEnd
row_end end key = record { end = end; key = key }

-- the order of the turned keys of rows: by client, then by node number
abbrev pub by_client : Order (ℕ × ℕ)
by_client = pairs numbers numbers

-- rows by their keys
abbrev pub RowTable : Type 0
RowTable = Table by_node Lease

-- ends, each with its row's key
abbrev pub EndTable : Type 0
EndTable = Table by_end (Unit {0})

-- the turned keys of rows
abbrev pub ClientTable : Type 0
ClientTable = Table by_client (Unit {0})

unfoldable pub table_of : List ((ℕ × ℕ) × Lease) → model.LeaseTable
table_of [] = empty
table_of (row ∷ rows) = insert (table_of rows) (row.0.1, row.0.0) (lease_of row.1)

-- the table of leases that the rows show
abbrev pub shown : RowTable → model.LeaseTable
shown rows = table_of rows.entries

-- the leases on other nodes than this one
abbrev pub without_node : model.LeaseTable → (node : ℕ) → model.LeaseTable
without_node leases node = model.on_those (λ other. not (other == node)) leases

-- the leases on other nodes than these
abbrev pub without_nodes : model.LeaseTable → (nodes : List ℕ) → model.LeaseTable
without_nodes leases [] = leases
without_nodes leases (node ∷ nodes) = without_nodes (without_node leases node) nodes

-- whether the row has this end
abbrev pub ends_at : Option Lease → (end : ℕ) → Bool
ends_at row end = is_some_and row (λ (lease : Lease). lease.end == end)

-- the ends are exactly those of the rows
abbrev pub AreEndsOf : RowTable → EndTable → Type 0
AreEndsOf rows ends = (end : ℕ) (key : ℕ × ℕ) → is_some (get ends (row_end end key)) ≡ ends_at (get rows key) end

-- the turned keys are exactly those of the rows
abbrev pub AreKeysOf : RowTable → ClientTable → Type 0
AreKeysOf rows clients = (key : ℕ × ℕ) → is_some (get clients (key.1, key.0)) ≡ is_some (get rows key)

module _ {A : Type 0} where
  abbrev pub row_table : LeaseRows A → RowTable
  row_table rows = table by_node rows.leases

  abbrev pub end_table : LeaseRows A → EndTable
  end_table rows = table by_end rows.ends

  abbrev pub client_table : LeaseRows A → ClientTable
  client_table rows = table by_client rows.of_clients

  abbrev pub table_in : LeaseRows A → model.LeaseTable
  table_in rows = shown (row_table rows)

  -- what both indexes list is exactly what the rows have
  pub record IndexesAreExact (rows : LeaseRows A) : Type 0 where
    pub ends : AreEndsOf (row_table rows) (end_table rows)
    pub clients : AreKeysOf (row_table rows) (client_table rows)
