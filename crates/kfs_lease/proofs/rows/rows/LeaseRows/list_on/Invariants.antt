use Rattle.std.proofs.Common.{◌≡◌}
use Rattle.kfs_maps.specs.Chunks.Starts.{is_from}
use Rattle.kfs_lease.specs.Rows.Ending.{AreListed, rows_left, start_on}
use Rattle.kfs_lease.specs.Rows.Rows.{by_node, shown, without_node}
use Rattle.kfs_lease.proofs.RowsLemmas.Endings.{AreGone}
use Rattle.kfs_lease.proofs.RowsLemmas.Walks.{how_many}
use Rattle.kfs_lease.proofs.rows.rows.LeaseRows.list_on.Given as goal

-- the rows of the node's clients so far are gone from those that are left
abbrev pub invariant-loop-client : goal.invariant-loop-client
invariant-loop-client g l = record {
  listed : AreListed l.self l.ending;
  gone : AreGone l.number l.after (rows_left l.self l.ending);
  same : without_node (shown (rows_left l.self l.ending)) l.number ≡ without_node (shown (rows_left l.self l.initial.ending)) l.number;
}

abbrev pub decreases-loop-client : goal.decreases-loop-client
decreases-loop-client g l = how_many (is_from by_node.compare (start_on l.number l.after)) l.self.leases
