use Rattle.std.proofs.Common.{◌≡◌, All, map, take}
use Rattle.kfs_lease.specs.ShownLists.{row_shown}
use Rattle.kfs_call.specs.StateRows.{IsLeaseRow}
use Rattle.kfs_call.specs.StateViews.{lease_shown}
use Rattle.kfs_call_desk.specs.Restore.Saved.{spelled_lease}
use Rattle.kfs_call_desk.proofs.restore.rows.lease_rows.Given as goal

abbrev pub invariant-loop-lease : goal.invariant-loop-lease
invariant-loop-lease g l = record {
  rows : map lease_shown l.rows.items ≡ map (λ lease. spelled_lease (row_shown lease)) (take l.lease-index l.leases);
  fit : All (λ row. IsLeaseRow (lease_shown row)) l.rows.items;
}
