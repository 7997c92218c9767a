use Rattle.std.proofs.Common.{refl}
use Rattle.std.proofs.lemmas.List.{length-map}
use Rattle.kfs_entry.proofs.RowLaws.{flat_map-map}
use Rattle.kfs_call.specs.StateRows.{client_bytes, lease_bytes}
use Rattle.kfs_call.specs.StateViews.{client_shown, lease_shown}
use Rattle.kfs_call.proofs.state_encoding.encode_state.Goals as goal

pub returns : goal.returns
returns g c =
    let state = c.args.state.now in
    rw (
      c.in_ok-extend_from_slice.ensures.items,
      c.in_ok-write_rows-2.ensures,
      c.in_ok-write_rows.ensures,
      c.in_ok-write.ensures,
      c.in_ok-out.ensures.items,
      c.as_slice-clients.ensures,
      c.as_slice-leases.ensures,
      length-map state.clients client_shown,
      length-map state.leases lease_shown,
      flat_map-map client_shown client_bytes state.clients,
      flat_map-map lease_shown lease_bytes state.leases,
    ) refl
