use Rattle.std.proofs.Common.{◌≡◌, None, List, IfOk, IfErr, map, option_map, ap, subst, ◌∙◌}
use Rattle.std.proofs.lemmas.Result.{err_from_is_err_and}
use Rattle.kfs_model.specs.Access.{Client}
use Rattle.kfs_model.specs.Device.ShownTree.{DeviceImage}
use Rattle.kfs_image.specs.Codec.RawImages.{raw_of}
use Rattle.kfs_call.specs.StateViews.{client_shown, lease_shown, state_shown}
use Rattle.kfs_desk.specs.Machine.{state_at}
use Rattle.kfs_call_desk.specs.Restore.Restored.{BrokenRule, begin_refusal, clients_refusal, leases_at, leases_refusal}
use Rattle.kfs_call_desk.specs.Restore.Told.{IsRefusedFor}
use Rattle.kfs_call_desk.proofs.RestoreLemmas.Verdicts.{client_tells, last_tells, lease_tells}
use Rattle.kfs_call_desk.proofs.restore.restoring.desk_of.Goals as goal

pub returns-in_err-clients : goal.returns-in_err-clients
returns-in_err-clients g c =
    let p = err_from_is_err_and c.from_residual-in_err-clients.result c.from_residual-in_err-clients.ensures.1 in
    let s = state_shown {A = g.row.A.Denot} c.args.rows.now in
    let rules = ap (option_map BrokenRule) c.in_ok-image.ensures.well_formed in
    let fault = c.in_err-clients.field-0.0 in
    let told = subst (λ rows. IsRefusedFor (clients_refusal (map client_shown rows)) fault) c.as_slice.ensures c.in_err-clients.ensures.err in
    rw (p.1, p.2) (client_tells s (raw_of c.args.raw) rules fault told)

pub returns-in_err-leases : goal.returns-in_err-leases
returns-in_err-leases g c =
    let p = err_from_is_err_and c.from_residual-in_err-leases.result c.from_residual-in_err-leases.ensures.1 in
    let s = state_shown {A = g.row.A.Denot} c.args.rows.now in
    let rules = ap (option_map BrokenRule) c.in_ok-image.ensures.well_formed in
    let passed = subst (λ rows. clients_refusal (map client_shown rows) ≡ None) c.as_slice.ensures c.in_ok-clients.ensures.fit in
    let clients = c.deref.ensures.value ∙ c.in_ok-clients.ensures.clients ∙ ap (map client_shown) c.as_slice.ensures in
    let heads = ap (λ (i : DeviceImage). i.heads) c.in_ok-image.ensures.image in
    let leases = ap (map lease_shown) c.as_slice-2.ensures in
    let fault = c.in_err-leases.field-0.0 in
    let told = subst (λ found. IsRefusedFor found fault) (λ i. leases_refusal (clients i) (heads i) c.args.rows.now.moment (leases i)) c.in_err-leases.ensures.err in
    rw (p.1, p.2) (lease_tells s (raw_of c.args.raw) rules passed fault told)

pub returns : goal.returns
returns g c =
    let s = state_shown {A = g.row.A.Denot} c.args.rows.now in
    let moment = c.args.rows.now.moment in
    let rules = ap (option_map BrokenRule) c.in_ok-image.ensures.well_formed in
    let passed = subst (λ rows. clients_refusal (map client_shown rows) ≡ None) c.as_slice.ensures c.in_ok-clients.ensures.fit in
    let items = c.in_ok-clients.ensures.clients ∙ ap (map client_shown) c.as_slice.ensures in
    let clients = c.deref.ensures.value ∙ items in
    let image = c.in_ok-image.ensures.image in
    let heads = ap (λ (i : DeviceImage). i.heads) image in
    let rows = ap (map lease_shown) c.as_slice-2.ensures in
    let none = subst (λ found. found ≡ None) (λ i. leases_refusal (clients i) (heads i) moment (rows i)) c.in_ok-leases.ensures.fit in
    let held = c.in_ok-leases.ensures.leases ∙ ap (leases_at moment) rows in
    let ends = c.desk_with.ensures in
    last_tells s (raw_of c.args.raw) rules passed none c.args.limit (state_at c.in_ok-image.image c.in_ok-clients.clients.items c.in_ok-leases.leases) c.desk_with.result (λ i. state_at (image i) (items i) (held i)) ends.desk
    (subst (λ (rows : List Client). IfOk c.desk_with.result (λ desk. begin_refusal rows ≡ None)) items ends.fit)
    (subst (λ (rows : List Client). IfErr c.desk_with.result (IsRefusedFor (begin_refusal rows))) items ends.err)
