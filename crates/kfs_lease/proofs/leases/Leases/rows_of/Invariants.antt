use Rattle.std.proofs.Common.{◌≡◌, ◌-◌, ◌≤◌, ◌++◌, filter, length, vec_len}
use Rattle.kfs_lease.specs.LeaseLists.{is_own}
use Rattle.kfs_lease.specs.Rows.Rows.{row_table}
use Rattle.kfs_lease.specs.ShownLists.{rows_shown}
use Rattle.kfs_lease.proofs.ListLemmas.OwnRows.{later_rows, rows_at}
use Rattle.kfs_lease.proofs.leases.Leases.rows_of.Given as goal

-- the rows so far come first, and then those behind the last of them
abbrev pub invariant-loop-self : goal.invariant-loop-self
invariant-loop-self g l = record {
  parts : filter (is_own l.client l.first) (rows_at (row_table l.self-inside.rows).entries) ≡ rows_shown l.rows.items ++ later_rows l.client l.after (row_table l.self-inside.rows).entries;
  most : length l.rows.items ≤ l.at_most;
}

abbrev pub decreases-loop-self : goal.decreases-loop-self
decreases-loop-self g l = l.at_most - vec_len l.rows
