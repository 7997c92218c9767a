use Rattle.std.proofs.Common.{◌≡◌, drop}
use Rattle.kfs_model.specs.Table.{empty}
use Rattle.kfs_lease.specs.Writer.{with_writes}
use Rattle.kfs_lease.specs.Rows.Rows.{table_in, IndexesAreExact}
use Rattle.kfs_lease.proofs.leases.Leases.of_writer.Given as goal

-- with the leases on the nodes that are left, the table is the one with those on all of them
abbrev pub invariant-loop-number : goal.invariant-loop-number
invariant-loop-number g l = record {
  indexed : IndexesAreExact l.rows;
  left : with_writes (table_in l.rows) l.client (drop l.number-index l.numbers) ≡ with_writes empty l.client l.numbers;
}
