use Rattle.std.proofs.Common.{◌≡◌, map, take}
use Rattle.kfs_lease.specs.ShownLists.{row_shown}
use Rattle.kfs_call.specs.StateViews.{lease_shown}
use Rattle.kfs_call_desk.specs.Restore.Saved.{lease_of_row}
use Rattle.kfs_call_desk.proofs.restore.rows.leases_of.Given as goal

abbrev pub invariant-loop-row : goal.invariant-loop-row
invariant-loop-row g l = map row_shown l.leases.items ≡ map (λ row. lease_of_row (lease_shown row)) (take l.row-index l.rows)
