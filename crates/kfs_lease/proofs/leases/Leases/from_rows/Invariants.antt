use Rattle.std.proofs.Common.{◌≡◌, None, option_map, take}
use Rattle.kfs_model.specs.Table.{get}
use Rattle.kfs_lease.specs.LeaseLists.{IsLast, fault_of_rows, listed_table}
use Rattle.kfs_lease.specs.Rows.Rows.{table_in, IndexesAreExact}
use Rattle.kfs_lease.specs.ShownLists.{row_shown, rows_shown}
use Rattle.kfs_lease.proofs.leases.Leases.from_rows.Given as goal

abbrev pub invariant-loop-index : goal.invariant-loop-index
invariant-loop-index g l = record {
  none : fault_of_rows l.clients (get l.shape.heads) l.moment (rows_shown (take l.index l.rows)) ≡ None;
  last : IsLast (rows_shown (take l.index l.rows)) (option_map row_shown l.last);
  table : table_in l.table ≡ listed_table (rows_shown (take l.index l.rows));
  exact : IndexesAreExact l.table;
}
