use Rattle.std.proofs.Common.{◌≡◌, drop}
use Rattle.kfs_lease.specs.Rows.Ending.{AreListed, rows_left}
use Rattle.kfs_lease.specs.Rows.Rows.{shown, table_in, without_nodes}
use Rattle.kfs_lease.proofs.rows.rows.LeaseRows.remove_nodes.Given as goal

-- without the leases on the nodes that are left, what is left is the table without those on all of them
abbrev pub invariant-loop-number : goal.invariant-loop-number
invariant-loop-number g l = record {
  listed : AreListed l.self l.ending;
  left : without_nodes (shown (rows_left l.self l.ending)) (drop l.number-index l.numbers) ≡ without_nodes (table_in l.self) l.numbers;
}
