-- The leases so far are those of the rows so far.
use Rattle.std.proofs.Common.{◌≡◌, map, take}
use Rattle.kfs_lease.specs.ShownLists.{row_shown}
use Rattle.kfs_c.specs.Resuming.{lease_of}
use Rattle.kfs_c.proofs.resuming.lease_rows.Given as goal

abbrev pub invariant-loop-row : goal.invariant-loop-row
invariant-loop-row l = map row_shown l.made.items ≡ map lease_of (take l.row-index l.rows)
