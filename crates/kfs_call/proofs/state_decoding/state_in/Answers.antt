use Rattle.std.proofs.Common.{drop}
use Rattle.std.proofs.lemmas.Result.{err_from_is_err_and}
use Rattle.kfs_call.specs.StateRows.{IsClientRow, client_bytes, IsLeaseRow, lease_bytes}
use Rattle.kfs_call.specs.StateViews.{client_shown, lease_shown, header_shown}
use Rattle.kfs_entry.proofs.DecodedPlan.{part_stands}
use Rattle.kfs_call.proofs.DecodedState.{state_was_read, rows_are_missing}
use Rattle.kfs_call.proofs.state_decoding.state_in.Goals as goal

pub returns-in_err-clients : goal.returns-in_err-clients
returns-in_err-clients g c =
    let p = err_from_is_err_and c.from_residual-in_err-clients.result c.from_residual-in_err-clients.ensures.1 in
    let source = c.args.source.now in
    let header = c.in-Some.ensures.found in
    rw (p.1, p.2) (rows_are_missing g.row.A.Denot client_shown IsClientRow client_bytes source (drop c.in-Some.at source) (header_shown c.in-Some.header) (drop c.in-Some.at source) 0 c.in-Some.header.clients
    c.in_err-clients.field-0.0 header.0 header.1.parts (λ k stop. stop) c.in_err-clients.ensures.missing)

pub returns-in_err-leases : goal.returns-in_err-leases
returns-in_err-leases g c =
    let p = err_from_is_err_and c.from_residual-in_err-leases.result c.from_residual-in_err-leases.ensures.1 in
    let source = c.args.source.now in
    let header = c.in-Some.ensures.found in
    let clients = c.in_ok-clients.ensures.found in
    let a = drop c.in-Some.at source in
    let b = drop c.in_ok-clients.at source in
    let clients_stand = part_stands client_shown IsClientRow client_bytes c.in_ok-clients.clients.items c.in-Some.header.clients a b clients.number clients.are in
    rw (p.1, p.2) (rows_are_missing g.row.A.Denot lease_shown IsLeaseRow lease_bytes source b (header_shown c.in-Some.header) a 1 c.in-Some.header.leases
    c.in_err-leases.field-0.0 header.0 header.1.parts (λ k stop. (b, clients_stand, stop)) c.in_err-leases.ensures.missing)

pub returns : goal.returns
returns g c =
    let source = c.args.source.now in
    let header = c.in-Some.ensures.found in
    let p = state_was_read source c.in-Some.at c.in_ok-clients.at c.in_ok-leases.end (header_shown c.in-Some.header) c.in_ok-clients.clients.items c.in_ok-leases.leases.items
    header.0 header.1.parts c.in_ok-clients.ensures.found c.in_ok-leases.ensures.found in
    rw (c.from_vec.ensures, c.from_vec-2.ensures, c.behind.ensures) p
