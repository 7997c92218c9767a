-- The clients so far, and those of the rows that are left, are those of all rows; and the rows so far are right.
use Rattle.std.proofs.Common.{◌≡◌, ◌++◌, All, map, drop, take}
use Rattle.kfs_c.specs.Opening.{IsRowRight, client_of}
use Rattle.kfs_c.proofs.opening.clients_from.Given as goal

abbrev pub invariant-loop-index : goal.invariant-loop-index
invariant-loop-index l = record {
  made : l.clients.items ++ map (client_of l.groups) (drop l.index l.rows) ≡ map (client_of l.groups) l.rows;
  right : All (IsRowRight l.groups) (take l.index l.rows);
}
