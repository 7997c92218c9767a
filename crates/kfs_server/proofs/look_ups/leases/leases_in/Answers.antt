use Rattle.std.proofs.Common.{◌+◌, ◌-◌, ◌<◌, ◌≤◌, length, arith}
use Rattle.kfs_lease.specs.declared.leases.listed.LeaseRow.{LeaseRow}
use Rattle.kfs_lease.specs.declared.rows.rows.LeaseKind.TheVariants.{Read}
use Rattle.kfs_server.proofs.LookUpsLemmas.Held.{held_full, taken_in, taken_len}
use Rattle.kfs_server.proofs.look_ups.leases.leases_in.Goals as goal

-- what stands for a row behind the last one
abbrev nothing : LeaseRow
nothing = record { number = 0; client = 0; kind = Read; end = 0 }

pub returns-then-room-len-lt-LEASE_LEN-clause-listing :
    goal.returns-then-room-len-lt-LEASE_LEN-clause-listing
returns-then-room-len-lt-LEASE_LEN-clause-listing g c =
    let bytes = c.loop-row.bytes.items in
    let full : c.args.room - length bytes < 13 = omega (arith, c.len.ensures) in
    held_full c.args.room c.args.rows.now c.loop-row.row-index nothing c.loop-row-test.true bytes c.loop-row.invariant.so_far c.loop-row.invariant.within full

pub loop-row-preserved : goal.loop-row-preserved
loop-row-preserved g c =
    let room = c.args.room in
    let rows = c.args.rows.now in
    let i = c.loop-row.row-index in
    let bytes = c.loop-row.bytes.items in
    let fits : length bytes + 13 ≤ room = omega (arith, c.len.ensures, c.loop-row.invariant.within) in
    record {
      so_far = taken_in room rows i nothing c.loop-row-test.true bytes c.push_lease.new.bytes.items c.loop-row.invariant.so_far c.in_ok-push_lease.ensures;
      within = taken_len room rows i nothing c.loop-row-test.true bytes c.push_lease.new.bytes.items fits c.in_ok-push_lease.ensures;
    }
