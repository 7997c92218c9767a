use Rattle.std.proofs.Common.{sym, subst, rules}
use Rattle.std.specs.Prelude.{IsNone}
use Rattle.std.proofs.lemmas.Result.{err_from_is_err_and}
use Rattle.kfs_call_desk.specs.Restore.Restored.{RestoreAnswer}
use Rattle.kfs_kept.specs.Admitting.{Keeps, begun_with, with_clients}
use Rattle.kfs_kept.proofs.Admitted.{begins, beside_before, beside_right}
use Rattle.kfs_kept.proofs.admitting.admission_of.Goals as goal

pub state_with-requires : goal.state_with-requires
state_with-requires g c =
    let none : IsNone c.left_out.result = search rules in
    record { keeps = subst (λ old. Keeps old c.args.clients.now) c.clients.ensures.shown (c.left_out.ensures.none none) }

pub desk_from-requires-clause-comes : goal.desk_from-requires-clause-comes
desk_from-requires-clause-comes g c κs within =
    let s = with_clients c.args.desk.now.state c.args.clients.now in
    (s, subst (λ bytes. RestoreAnswer bytes (begun_with s)) (sym c.deref.ensures.value) c.in_ok-state.ensures.restored)

pub returns-in_err-desk-clause-before : goal.returns-in_err-desk-clause-before
returns-in_err-desk-clause-before g c =
    let s = with_clients c.args.desk.now.state c.args.clients.now in
    let comes = subst (λ bytes. RestoreAnswer bytes (begun_with s)) (sym c.deref.ensures.value) c.in_ok-state.ensures.restored in
    let p = err_from_is_err_and c.from_residual-in_err-desk.result c.from_residual-in_err-desk.ensures.1 in
    rw (p.1, p.2) (beside_before s.clients c.in_err-desk.field-0.0 (c.in_err-desk.ensures.why s comes))

pub returns-in_err-desk-clause-why : goal.returns-in_err-desk-clause-why
returns-in_err-desk-clause-why g c =
    let s = with_clients c.args.desk.now.state c.args.clients.now in
    let comes = subst (λ bytes. RestoreAnswer bytes (begun_with s)) (sym c.deref.ensures.value) c.in_ok-state.ensures.restored in
    let p = err_from_is_err_and c.from_residual-in_err-desk.result c.from_residual-in_err-desk.ensures.1 in
    rw (p.1, p.2) (beside_right c.args.desk.now.state s.clients c.in_err-desk.field-0.0 (c.in_err-desk.ensures.why s comes))

pub returns-clause-admits : goal.returns-clause-admits
returns-clause-admits g c =
    let s = with_clients c.args.desk.now.state c.args.clients.now in
    let comes = subst (λ bytes. RestoreAnswer bytes (begun_with s)) (sym c.deref.ensures.value) c.in_ok-state.ensures.restored in
    let none : IsNone c.left_out.result = search rules in
    record { keeps = subst (λ old. Keeps old c.args.clients.now) c.clients.ensures.shown (c.left_out.ensures.none none); beside = (c.in_ok-desk.ensures.desk s comes).1 }

pub returns-clause-desk : goal.returns-clause-desk
returns-clause-desk g c =
    let s = with_clients c.args.desk.now.state c.args.clients.now in
    (c.in_ok-desk.ensures.desk s (subst (λ bytes. RestoreAnswer bytes (begun_with s)) (sym c.deref.ensures.value) c.in_ok-state.ensures.restored)).0

pub returns-clause-restored : goal.returns-clause-restored
returns-clause-restored g c =
    let s = with_clients c.args.desk.now.state c.args.clients.now in
    let comes = subst (λ bytes. RestoreAnswer bytes (begun_with s)) (sym c.deref.ensures.value) c.in_ok-state.ensures.restored in
    subst (λ answer. RestoreAnswer c.in_ok-state.state.items answer) (begins s (c.in_ok-desk.ensures.desk s comes).1) c.in_ok-state.ensures.restored
