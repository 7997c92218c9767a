use Rattle.std.proofs.Common.{◌+◌, ◌-◌, ◌<◌, ◌≤◌, length, ap, arith}
use Rattle.kfs_server.proofs.LookUpsLemmas.Listings.{listing_ends, listing_full, listing_goes_on, listing_len}
use Rattle.kfs_server.proofs.look_ups.names.names_behind.Goals as goal

pub returns-then-room-len-clause-listing : goal.returns-then-room-len-clause-listing
returns-then-room-len-clause-listing g c =
    let names = c.args.image.now.names in
    let bytes = c.names.bytes.items in
    let name = c.in-Some.name.now in
    let longer : c.args.room - length bytes < 5 + length name = omega (arith, ap length c.as_bytes.ensures.value) in
    listing_full names c.args.directory c.args.room c.args.after c.names.last bytes name c.in-Some.number c.names.invariant.so_far c.in-Some.ensures.found longer

pub names-preserved : goal.names-preserved
names-preserved g c =
    let names = c.args.image.now.names in
    let bytes = c.names.bytes.items in
    let new = c.push_name.new.bytes.items in
    let name = c.in-Some.name.now in
    let fits : 5 + length name ≤ c.args.room - length bytes = omega (arith, ap length c.as_bytes.ensures.value) in
    record {
      within = (listing_len names c.args.directory c.args.room c.args.after bytes new name c.in-Some.number fits c.names.invariant.within c.in_ok-push_name.ensures).0;
      so_far = listing_goes_on names c.args.directory c.args.room c.args.after c.names.last bytes new name c.in-Some.number c.in-Some.ensures.found fits c.in_ok-push_name.ensures c.names.invariant.so_far;
    }

pub returns-clause-listing : goal.returns-clause-listing
returns-clause-listing g c =
    listing_ends c.args.image.now.names c.args.directory c.args.room c.args.after c.names.last c.names.bytes.items c.names.invariant.so_far c.in_default.ensures.none
