use Rattle.std.proofs.lemmas.Result.{err_from_is_err_and}
use Rattle.kfs_server.proofs.ServingLemmas.Onward.{run_first, run_stopped}
use Rattle.kfs_server.proofs.serving.onward.answer_run.Goals as goal

pub returns-in_err-write_answers-clause-served : goal.returns-in_err-write_answers-clause-served
returns-in_err-write_answers-clause-served g c = λ all are.
    let disk = g.D.Disk in
    let p = err_from_is_err_and c.from_residual.result c.from_residual.ensures.1 in
    rw (p.1, p.2)
    (run_stopped disk.may_leave disk.moment disk.left_since c.in_err-write_answers.field-0.0 _ _ c.args.kept.now c.write_answers.new.kept c.args.frames.now c.split_at.result.0.now c.args.count all c.split_at.ensures.front are (λ fs zip. c.in_err-write_answers.ensures.served fs zip))

pub returns-clause-served : goal.returns-clause-served
returns-clause-served g c = λ all are.
    let disk = g.D.Disk in
    run_first disk.may_leave disk.moment disk.left_since _ _ c.args.kept.now c.write_answers.new.kept c.args.frames.now c.split_at.result.0.now c.split_at.result.1.now c.args.count all c.split_at.ensures.front c.split_at.ensures.back are
    (λ fs zip. c.in_ok-write_answers.ensures.served fs zip)
