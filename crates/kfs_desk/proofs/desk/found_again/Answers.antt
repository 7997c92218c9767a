-- The outcome with names of its own is the verdict, too.
use Rattle.std.proofs.Common.{◌≡◌, ap, subst, ◌∙◌}
use Rattle.kfs_model.specs.Judgement.{Submission}
use Rattle.kfs_plan.specs.Judging.{IsVerdict, submission_of, submission_with}
use Rattle.kfs_plan.proofs.SameFindings.{same_verdict}
use Rattle.kfs_desk.specs.Machine.{state_at}
use Rattle.kfs_desk.proofs.desk.found_again.Goals as goal

pub returns-clause-verdict : goal.returns-clause-verdict
returns-clause-verdict g c =
    let state = state_at c.args.image.now c.args.clients.now.value.items c.args.leases.now.value in
    let client = c.submission-submission.result.now.client in
    let found = c.in_ok-outcome.outcome in
    let path : submission_with client c.as_slice.result.now c.as_slice-2.result.now ≡ submission_of c.args.judged.now.submission =
    (λ i. submission_with client (c.as_slice.ensures.value i) (c.as_slice-2.ensures.value i)) ∙ ap submission_of c.submission-submission.ensures in
    same_verdict state (submission_of c.args.judged.now.submission) found c.in_ok-kept.kept c.in_ok-kept.ensures (subst (λ (submission : Submission). IsVerdict state submission found) path c.in_ok-outcome.ensures.verdict)
