use Rattle.kfs_maps.specs.Chunks.Starts.{is_from}
use Rattle.kfs_lease.specs.LeaseLists.{Ascend}
use Rattle.kfs_lease.specs.Rows.Rows.{by_node}
use Rattle.kfs_lease.specs.ShownLists.{rows_shown}
use Rattle.kfs_lease.proofs.ListLemmas.WalkedRows.{AreBefore, HaveThoseBefore}
use Rattle.kfs_lease.proofs.RowsLemmas.Walks.{how_many}
use Rattle.kfs_lease.proofs.leases.Leases.rows.Given as goal

-- the rows so far are those before the start
abbrev pub invariant-loop-key : goal.invariant-loop-key
invariant-loop-key g l = record {
  ascend : Ascend (rows_shown l.rows.items);
  before : AreBefore l.start (rows_shown l.rows.items);
  have : HaveThoseBefore l.self-inside.rows.leases l.start (rows_shown l.rows.items);
}

abbrev pub decreases-loop-key : goal.decreases-loop-key
decreases-loop-key g l = how_many (is_from by_node.compare l.start) l.self-inside.rows.leases
