-- What the plan's check told is what the finding says.
use Rattle.std.proofs.Common.{rules, refl, sym, subst}
use Rattle.kfs_plan.specs.declared.submission.Fault.TheVariants as faults
use Rattle.kfs_plan.specs.declared.submission.Outcome.TheVariants as outcomes
use Rattle.kfs_plan.specs.Judging.{OutcomeIsSettled}
use Rattle.kfs_plan.specs.PlanCheck.{TellsOfEachRun}
use Rattle.kfs_plan.proofs.judgement.settle.Goals as goal

pub returns-in-Ok-check_rows-clause-outcome : goal.returns-in-Ok-check_rows-clause-outcome
returns-in-Ok-check_rows-clause-outcome g c =
    let sizes = c.args.walk.sizes.items in
    let net = c.in-Ok.net in
    let told = subst (λ all. TellsOfEachRun all c.args.log net c.args.plan c.check_rows.result) c.as_slice.ensures.value c.check_rows.ensures in
    subst (λ walked. OutcomeIsSettled c.args.log c.args.plan sizes walked (outcomes.Yes c.args.log c.args.plan net c.in-Ok-check_rows.need)) (sym c.in-Ok.is)
    (refl, refl, refl, subst (TellsOfEachRun sizes c.args.log net c.args.plan) c.in-Ok-check_rows.is told)

pub returns : goal.returns
returns g c =
    let sizes = c.args.walk.sizes.items in
    let net = c.in-Ok.net in
    let told = subst (λ all. TellsOfEachRun all c.args.log net c.args.plan c.check_rows.result) c.as_slice.ensures.value c.check_rows.ensures in
    record {
      reads = refl;
      outcome = subst (λ walked. OutcomeIsSettled c.args.log c.args.plan sizes walked (outcomes.No (faults.Row c.in-Err-check_rows.fault))) (sym c.in-Ok.is)
          (search rules, subst (TellsOfEachRun sizes c.args.log net c.args.plan) c.in-Err-check_rows.is told);
      memory = tt;
    }
