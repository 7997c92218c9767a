-- Rows of leases as the definitions see them.
use Rattle.std.specs.Prelude.{List, map, Option, Some, None}
use Rattle.kfs_lease.specs.LeaseLists as model
use Rattle.kfs_lease.specs.Rows.Rows.{kind_of}
use Rattle.kfs_lease.specs.declared.leases.listed.LeaseRow.{LeaseRow}
use Rattle.kfs_lease.specs.declared.leases.listed.LeaseRowFault.{LeaseRowFault}
use Rattle.kfs_lease.specs.declared.leases.listed.LeaseRowFault.TheVariants.{UnknownClient, NoSuchNode, Past, NotAscending, LeaseHeld, OutOfMemory}

abbrev pub row_shown : LeaseRow → model.LeaseRow
row_shown row = record { number = row.number; client = row.client; kind = kind_of row.kind; end = row.end }

abbrev pub rows_shown : List LeaseRow → List model.LeaseRow
rows_shown rows = map row_shown rows

-- the refusal, or none where memory was refused
abbrev pub row_fault_of : LeaseRowFault → Option model.LeaseRowFault
row_fault_of (UnknownClient index) = Some (model.UnknownClient index)
row_fault_of (NoSuchNode index) = Some (model.NoSuchNode index)
row_fault_of (Past index) = Some (model.Past index)
row_fault_of (NotAscending index) = Some (model.NotAscending index)
row_fault_of (LeaseHeld index) = Some (model.LeaseHeld index)
row_fault_of OutOfMemory = None
