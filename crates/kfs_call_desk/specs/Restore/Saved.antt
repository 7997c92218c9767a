-- A state of a desk as bytes.
use Rattle.std.specs.Prelude.{◌≡◌, ◌⊎◌, ℕ, ◌^◌, ◌≤◌, nat_lt, List, length, map, IsTrue}
use Rattle.std.specs.List.{list_any}
use Rattle.kfs_model.specs.Access.{Client}
use Rattle.kfs_model.specs.Limits.{group_limit}
use Rattle.kfs_model.specs.Judgement.{State}
use Rattle.kfs_model.specs.Device.Canonical.{canonical_bytes}
use Rattle.kfs_lease.specs.LeaseLists.{LeaseRow, Ascend, listed_leases}
use Rattle.kfs_call.specs.StateRows.{StateRows, IsStateRows, state_bytes}
use Rattle.kfs_call.specs.StateRows as spelled

-- a lease as a row of a state's bytes, and such a row as a lease
abbrev pub spelled_lease : LeaseRow → spelled.LeaseRow
spelled_lease row = record { node = row.number; client = row.client; kind = row.kind; end = row.end }

abbrev pub lease_of_row : spelled.LeaseRow → LeaseRow
lease_of_row row = record { number = row.node; client = row.client; kind = row.kind; end = row.end }

-- the rows are all the leases, ascending by node and client
pub record AreListed (s : State) (leases : List LeaseRow) : Type 0 where
  pub ascend : Ascend leases
  pub same : listed_leases s.leases.moment leases ≡ s.leases

-- the state as rows, with its leases in this order; the image is in its one encoding
abbrev pub rows_of_state : State → List LeaseRow → StateRows
rows_of_state s leases = record { moment = s.leases.moment; clients = s.clients; leases = map spelled_lease leases; image = canonical_bytes s.sizes s.tree s.placement }

-- the bytes are those of the state, and its numbers fit their widths
pub record IsSaved (s : State) (bytes : List ℕ) : Type 0 where
  pub leases : List LeaseRow
  pub listed : AreListed s leases
  pub fits : IsStateRows (rows_of_state s leases)
  pub spelled : bytes ≡ state_bytes (rows_of_state s leases)

-- some client has more groups than a client may have
abbrev pub HasManyGroups : List Client → Type 0
HasManyGroups clients = IsTrue (list_any (λ (client : Client). nat_lt group_limit (length client.groups)) clients)

-- clients or leases can't be counted in 32 bits, or the groups of a client are too many
pub record HasTooMany (s : State) : Type 0 where
  pub leases : List LeaseRow
  pub listed : AreListed s leases
  pub many : (2 ^ 32 ≤ length s.clients) ⊎ ((2 ^ 32 ≤ length leases) ⊎ HasManyGroups s.clients)
