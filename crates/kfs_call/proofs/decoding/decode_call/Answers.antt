use Rattle.std.proofs.Common.{arith}
use Rattle.std.proofs.lemmas.Result.{err_from_is_err_and}
use Rattle.kfs_call.specs.Views.{call_shown}
use Rattle.kfs_call.proofs.CallLaws.{call_layout}
use Rattle.kfs_call.proofs.Decoded.{told, told_trailing, told_value, never_told, never_trailing, only_value}
use Rattle.kfs_call.proofs.decoding.decode_call.Goals as goal

pub returns-in_err-call-clause-found : goal.returns-in_err-call-clause-found
returns-in_err-call-clause-found g c =
    let p = err_from_is_err_and c.from_residual.result c.from_residual.ensures.1 in
    rw (p.1, p.2) (told (call_shown {A = g.row.A.Denot}) call_layout c.args.source.now (λ i. omega (arith, c.type_inv.source i)) c.in_err-call.field-0.0 c.in_err-call.ensures.value)

pub returns-in_err-call-clause-only : goal.returns-in_err-call-clause-only
returns-in_err-call-clause-only g c = λ call fits spelled.
    let p = err_from_is_err_and c.from_residual.result c.from_residual.ensures.1 in
    rw (p.1, p.2) (never_told (call_shown {A = g.row.A.Denot}) call_layout c.args.source.now (λ i. omega (arith, c.type_inv.source i)) call fits spelled c.in_err-call.field-0.0 c.in_err-call.ensures.value)

pub returns-then-end-source-clause-found : goal.returns-then-end-source-clause-found
returns-then-end-source-clause-found g c =
    told_trailing (call_shown {A = g.row.A.Denot}) call_layout c.args.source.now (λ i. omega (arith, c.type_inv.source i)) c.in_ok-call.call c.in_ok-call.end c.if-end-source.true c.in_ok-call.ensures.value

pub returns-then-end-source-clause-only : goal.returns-then-end-source-clause-only
returns-then-end-source-clause-only g c = λ call fits spelled.
    never_trailing (call_shown {A = g.row.A.Denot}) call_layout c.args.source.now (λ i. omega (arith, c.type_inv.source i)) call fits spelled c.in_ok-call.call c.in_ok-call.end c.if-end-source.true c.in_ok-call.ensures.value

pub returns-clause-found : goal.returns-clause-found
returns-clause-found g c =
    told_value (call_shown {A = g.row.A.Denot}) call_layout c.args.source.now (λ i. omega (arith, c.type_inv.source i)) c.in_ok-call.call c.in_ok-call.end c.if-end-source.false c.in_ok-call.ensures.value

pub returns-clause-only : goal.returns-clause-only
returns-clause-only g c = λ call fits spelled.
    only_value (call_shown {A = g.row.A.Denot}) call_layout c.args.source.now (λ i. omega (arith, c.type_inv.source i)) call fits spelled c.in_ok-call.call c.in_ok-call.end c.in_ok-call.ensures.value
