use Rattle.std.proofs.Common.{map, ap, refl, [], ◌++◌, append-nil, ◌∙◌, arith}
use Rattle.kfs_lease.specs.ShownLists.{row_shown}
use Rattle.kfs_model.specs.Device.Canonical.{image_bytes}
use Rattle.kfs_call.specs.StateRows.{state_bytes}
use Rattle.kfs_call.specs.StateViews.{client_shown, lease_shown}
use Rattle.kfs_call_desk.specs.Restore.Saved.{spelled_lease}
use Rattle.kfs_call_desk.proofs.RestoreLemmas.Encoded.{encoded, image_behind_rows}
use Rattle.kfs_call_desk.proofs.restore.encoding.encode_desk.Goals as goal

pub returns-clause-saved : goal.returns-clause-saved
returns-clause-saved g c =
    let listed = c.in_ok-listed.listed.items in
    let rows = c.in_ok-clients.clients.items in
    let written = c.in_ok-rows.rows.items in
    let written_is = c.in_ok-rows.ensures.rows ∙ ap (map (λ lease. spelled_lease (row_shown lease))) c.deref.ensures.value in
    let moment = c.moment_in_range.result in
    let image = image_bytes c.args.image.now in
    let spelled = c.in_ok-bytes.ensures ∙ (λ i. state_bytes (record { moment = moment; clients = map client_shown (c.from_vec.ensures i); leases = map lease_shown (c.from_vec-2.ensures i); image = [] })) in
    encoded c.args.image.now c.args.clients.now c.args.leases.now listed c.in_ok-listed.ensures.ascend c.in_ok-listed.ensures.same rows c.in_ok-clients.ensures.rows c.in_ok-clients.ensures.fit written written_is c.in_ok-rows.ensures.fit
    moment image c.append_image.new.out.items (c.moment_in_range.ensures.same ∙ c.moment.ensures) (rw c.moment_in_range.ensures.same c.moment_in_range.ensures.fits) refl
    (omega (arith, c.if-len.false, c.len.ensures)) (omega (arith, c.if-len-2.false, c.len-else-len.ensures))
    (image_behind_rows (record { moment = moment; clients = map client_shown rows; leases = map lease_shown written; image = image }) c.in_ok-bytes.bytes.items c.append_image.new.out.items spelled c.in_ok-append_image.ensures)
