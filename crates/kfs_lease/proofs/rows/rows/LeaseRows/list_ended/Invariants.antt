use Rattle.std.proofs.Common.{◌≡◌}
use Rattle.kfs_model.specs.Lease.{live_at}
use Rattle.kfs_maps.specs.Chunks.Starts.{is_from}
use Rattle.kfs_lease.specs.Rows.Ending.{AreListed, rows_left, ends_left}
use Rattle.kfs_lease.specs.Rows.Rows.{by_end, shown}
use Rattle.kfs_lease.proofs.RowsLemmas.Endings.{EndsAreGone}
use Rattle.kfs_lease.proofs.RowsLemmas.Walks.{how_many}
use Rattle.kfs_lease.proofs.rows.rows.LeaseRows.list_ended.Given as goal

-- the ends so far are gone from those that are left
abbrev pub invariant-loop-end : goal.invariant-loop-end
invariant-loop-end g l = record {
  listed : AreListed l.self l.ending;
  gone : EndsAreGone l.start (ends_left l.self l.ending);
  same : live_at l.moment (shown (rows_left l.self l.ending)) ≡ live_at l.moment (shown (rows_left l.self l.initial.ending));
}

abbrev pub decreases-loop-end : goal.decreases-loop-end
decreases-loop-end g l = how_many (is_from by_end.compare l.start) l.self.ends
