-- Leases once nodes are removed.
use Rattle.std.specs.Prelude.{ℕ, List}
use Rattle.kfs_model.specs.Lease.{Leases}
use Rattle.kfs_lease.specs.Rows.Rows.{without_nodes}

-- the leases on other nodes than these, at the same moment
abbrev pub without_nodes_in : Leases → (nodes : List ℕ) → Leases
without_nodes_in leases nodes = record { rows = without_nodes leases.rows nodes; moment = leases.moment }
