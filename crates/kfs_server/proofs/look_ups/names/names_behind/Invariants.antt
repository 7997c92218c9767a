use Rattle.std.proofs.Common.{◌-◌, ◌≤◌, length}
use Rattle.kfs_server.proofs.LookUpsLemmas.Listings.{IsListedTo}
use Rattle.kfs_server.proofs.look_ups.names.names_behind.Given as goal

abbrev pub invariant-names : goal.invariant-names
invariant-names g l = record {
  within : length l.bytes.items ≤ l.room;
  so_far : IsListedTo l.image.names l.directory l.room l.fn.after l.last l.bytes.items;
}

abbrev pub decreases-names : goal.decreases-names
decreases-names g l = l.room - length l.bytes.items
