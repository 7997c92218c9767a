use Rattle.kfs_plan.specs.Judging.{submission_with}
use Rattle.kfs_call_desk.proofs.Outcomes.{submitting}
use Rattle.kfs_call_desk.proofs.made.submit.Goals as goal

pub returns : goal.returns
returns g c =
    let e = c.submit_bytes-answer.ensures in
    submitting c.args.desk.now c.submit_bytes-answer.new.self (submission_with c.args.client c.args.log.now c.args.plan.now) c.submit_bytes-answer.result c.replied.result e.full e.answered e.err e.legal c.replied.ensures
