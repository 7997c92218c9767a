use Rattle.std.proofs.Common.{◌≡◌, ◌+◌, ℕ, suc, refl, sym, subst, take, arith}
use Rattle.std.specs.List.{AllByRecursion}
use Rattle.std.specs.Prelude.{IsNone}
use Rattle.kfs_server.specs.Asking.{HasNoLookUp}
use Rattle.std.proofs.lemmas.Result.{err_from_is_err_and}
use Rattle.kfs_server.proofs.ServingLemmas.Onward.{look_first, look_stopped}
use Rattle.kfs_server.proofs.serving.onward.answer_next.Goals as goal

pub returns-in_err-answer_look_up-in-Some-look_up_in-clause-served :
    goal.returns-in_err-answer_look_up-in-Some-look_up_in-clause-served
returns-in_err-answer_look_up-in-Some-look_up_in-clause-served g c = λ all are.
    let disk = g.D.Disk in
    let p = err_from_is_err_and c.from_residual.result c.from_residual.ensures.1 in
    rw (p.1, p.2)
    (look_stopped disk.may_leave disk.moment disk.left_since c.in_err-answer_look_up-in-Some-look_up_in.field-0.0 _ _ c.args.kept.now c.answer_look_up.new.kept c.args.frames.now c.in-Some.others.now c.in-Some.first.now all c.in-Some.ensures.cases.0 are
    (λ f is. c.in_err-answer_look_up-in-Some-look_up_in.ensures.served f is))

pub returns-in_ok-answer_look_up-in-Some-look_up_in-clause-served :
    goal.returns-in_ok-answer_look_up-in-Some-look_up_in-clause-served
returns-in_ok-answer_look_up-in-Some-look_up_in-clause-served g c = λ all are.
    let disk = g.D.Disk in
    look_first disk.may_leave disk.moment disk.left_since _ _ c.args.kept.now c.answer_look_up.new.kept c.args.frames.now c.in-Some.others.now c.in-Some.first.now all c.in-Some.ensures.cases.0 are
    (λ f is. c.in_ok-answer_look_up-in-Some-look_up_in.ensures.served f is)

pub answer_run-requires-clause-calls : goal.answer_run-requires-clause-calls
answer_run-requires-clause-calls g c κs within =
    let count = c.calls_before.result in
    let one_more : suc count ≡ 1 + count = omega arith in
    subst (λ (k : ℕ). AllByRecursion HasNoLookUp (take k c.args.frames.now)) one_more
    (subst (λ frames. AllByRecursion HasNoLookUp (take (suc count) frames)) (sym c.in-Some.ensures.cases.0)
    (c.look_up_in.ensures.none (subst IsNone (sym c.in-None-look_up_in.is) refl), c.calls_before.ensures.calls))
