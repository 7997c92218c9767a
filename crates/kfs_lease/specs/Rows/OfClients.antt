-- A walk over the rows of one client.
use Rattle.std.specs.Prelude.{◌≡◌, ℕ, Bool, true, false, Option, Some, None, IsSome}
use Rattle.std.specs.Ordering.{is_lt}
use Rattle.kfs_model.specs.Table.{get}
use Rattle.kfs_maps.specs.Chunks.Starts.{is_from}
use Rattle.kfs_lease.specs.declared.rows.rows.Lease.{Lease}
use Rattle.kfs_lease.specs.Rows.Ending.{start_on}
use Rattle.kfs_lease.specs.Rows.Rows.{by_client, RowTable}

-- whether the client's row on this node comes behind the one on that node, or is one of all
abbrev pub is_behind : (client : ℕ) → (after : Option ℕ) → (node : ℕ) → Bool
is_behind client after node = is_from by_client.compare (start_on client after) (client, node)

-- the client's first row behind that node is on this one
pub record IsNextOf (rows : RowTable) (client : ℕ) (after : Option ℕ) (node : ℕ) (lease : Lease) : Type 0 where
  pub found : get rows (node, client) ≡ Some lease
  pub behind : is_behind client after node ≡ true
  pub least : (n : ℕ) → is_behind client after n ≡ true → IsSome (get rows (n, client)) → is_lt (by_client.compare (client, n) (client, node)) ≡ false

-- the client has no row behind that node
abbrev pub NoneOf : RowTable → (client : ℕ) → (after : Option ℕ) → Type 0
NoneOf rows client after = (node : ℕ) → is_behind client after node ≡ true → get rows (node, client) ≡ None
