-- The view is of the state that was seen, which is in order.
use Rattle.std.proofs.Common.{IfOk, subst}
use Rattle.kfs_model.specs.Judgement.{State}
use Rattle.kfs_plan.specs.Judging.{submission_of}
use Rattle.kfs_desk.specs.Verdict.Verdict.{IsVerdictOn, verdict_of}
use Rattle.kfs_desk.proofs.VerdictLemmas.Verdicts.{judged_verdicts}
use Rattle.kfs_desk.proofs.verdict.desk_view.DeskView.judge.Goals as goal

pub returns-clause-verdict : goal.returns-clause-verdict
returns-clause-verdict g c =
    let inside = c.self.inside in
    let said = c.judge.ensures in
    subst (λ (s : State). IfOk c.judge.result (λ judged. IsVerdictOn s (submission_of c.args.submission) (verdict_of judged))) c.self.view_is
    (judged_verdicts inside.seen.value.state c.self.invariant.1 inside.view c.self.invariant.0 c.args.submission c.judge.result said.submission said.client said.known said.view_agrees said.among)
