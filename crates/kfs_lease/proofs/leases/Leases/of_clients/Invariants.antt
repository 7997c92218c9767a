use Rattle.std.proofs.Common.{take}
use Rattle.kfs_lease.specs.Rows.Rows.{table_in, IndexesAreExact}
use Rattle.kfs_lease.specs.ShownLists.{rows_shown}
use Rattle.kfs_lease.proofs.ListLemmas.OfClients.{HaveEnded}
use Rattle.kfs_lease.proofs.leases.Leases.of_clients.Given as goal

-- of the rows so far, those of clients that are gone have ended
abbrev pub invariant-loop-row : goal.invariant-loop-row
invariant-loop-row g l = record {
  exact : IndexesAreExact l.left;
  ended : HaveEnded l.clients l.self.rows (rows_shown (take l.row-index l.row-items)) (table_in l.left);
}
