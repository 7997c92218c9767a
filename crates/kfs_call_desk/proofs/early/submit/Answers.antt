use Rattle.kfs_plan.specs.Judging.{submission_with}
use Rattle.kfs_call_desk.proofs.Outcomes.{submitting}
use Rattle.kfs_call_desk.proofs.early.submit.Goals as goal

pub returns : goal.returns
returns g c =
    let e = c.answer_of-answer.ensures in
    submitting c.args.desk.now c.answer_of-answer.new.desk (submission_with c.args.client c.args.log.now c.args.plan.now) c.answer_of-answer.result c.replied.result e.full e.answered e.err e.legal c.replied.ensures
