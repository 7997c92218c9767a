use Rattle.std.proofs.Common.{◌≡◌, ◌≤◌, length, take}
use Rattle.std.specs.List.{flat_map}
use Rattle.kfs_lease.specs.ShownLists.{rows_shown}
use Rattle.kfs_server.specs.LookUps.Found.{held_bytes}
use Rattle.kfs_server.proofs.look_ups.leases.leases_in.Given as goal

abbrev pub invariant-loop-row : goal.invariant-loop-row
invariant-loop-row g l = record {
  so_far : l.bytes.items ≡ flat_map held_bytes (rows_shown (take l.row-index l.rows));
  within : length l.bytes.items ≤ l.room;
}
