-- A walk over all rows of a table of leases.
use Rattle.std.specs.Prelude.{◌≡◌, ℕ, true, List, None}
use Rattle.std.specs.FinMap.Entries.{find}
use Rattle.std.specs.declared.ops.Bound.{Bound}
use Rattle.kfs_maps.specs.Chunks.Starts.{is_from}
use Rattle.kfs_lease.specs.declared.rows.rows.Lease.{Lease}
use Rattle.kfs_lease.specs.Rows.Rows.{by_node}

-- no row comes from the start on
abbrev pub NoneFrom : List ((ℕ × ℕ) × Lease) → Bound (ℕ × ℕ) → Type 0
NoneFrom leases start = (key : ℕ × ℕ) → is_from by_node.compare start key ≡ true → find by_node.compare key leases ≡ None
