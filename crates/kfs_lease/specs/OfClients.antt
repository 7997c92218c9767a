-- The leases of some clients alone.
use Rattle.std.specs.Prelude.{List, is_some}
use Rattle.kfs_model.specs.Access.{Client}
use Rattle.kfs_model.specs.Lease.{Leases, row_of}
use Rattle.kfs_model.specs.Table.{retain}

-- the leases of the clients that have a row here, at the same moment
abbrev pub of_clients : List Client → Leases → Leases
of_clients clients leases = record { rows = retain (λ key. is_some (row_of clients key.0)) leases.rows; moment = leases.moment }
