use Rattle.std.proofs.Common.{ap, rules, arith}
use Rattle.kfs_lease.specs.ShownLists.{rows_shown}
use Rattle.kfs_server.proofs.LookUpsLemmas.Held.{held_found}
use Rattle.kfs_server.proofs.look_ups.leases.found_leases.Goals as goal

pub returns : goal.returns
returns g c = (
  held_found c.args.desk.now c.args.client c.args.first c.args.limit _ c.leases.result.now (rows_shown c.in_ok-rows.rows.items) (rows_shown c.deref.result.now) c.min-room.result c.in_ok-listing.listing.more c.in_ok-listing.listing.bytes.items c.leases.ensures.shown c.leases.ensures.lawful.in_force.live
      c.in_ok-rows.ensures (ap rows_shown c.deref.ensures.value) c.min-room.ensures (omega arith) c.in_ok-listing.ensures.listing,
  search rules,
)
