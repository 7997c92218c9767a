-- The leases of one client alone, each for writing.
use Rattle.std.specs.Prelude.{ℕ, List, [], ◌∷◌, is_some, if◌then◌else◌}
use Rattle.kfs_model.specs.Table.{empty, get, insert}
use Rattle.kfs_model.specs.Lease.{Lease, LeaseTable, Leases, WriteLease}

-- a lease for writing that ends at moment 1
abbrev pub first_write : Lease
first_write = record { kind = WriteLease; end = 1 }

-- the leases with such a one for the client on the node, where the client has none there
abbrev pub with_write : LeaseTable → (client number : ℕ) → LeaseTable
with_write rows client number = if is_some (get rows (client, number)) then rows else insert rows (client, number) first_write

-- the same on each of these nodes
abbrev pub with_writes : LeaseTable → (client : ℕ) → (numbers : List ℕ) → LeaseTable
with_writes rows client [] = rows
with_writes rows client (number ∷ numbers) = with_writes (with_write rows client number) client numbers

-- at moment 0 the client has such a lease on each of these nodes, and there is no other lease
abbrev pub leases_of_writer : (client : ℕ) → (numbers : List ℕ) → Leases
leases_of_writer client numbers = record { rows = with_writes empty client numbers; moment = 0 }
