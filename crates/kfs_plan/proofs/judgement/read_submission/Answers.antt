-- What the decoders found, as the verdict that it is or as what the entries are judged by.
use Rattle.std.proofs.Common.{◌≢◌, IsSome, subst, sym, arith}
use Rattle.kfs_entry.specs.declared.fault.SpellFault.TheVariants as spelling
use Rattle.kfs_model.specs.Spelling.{IsBytes}
use Rattle.kfs_plan.specs.Judging.{submission_with, IsVerdict, refusal_of}
use Rattle.kfs_plan.specs.declared.submission.Outcome.TheVariants as outcomes
use Rattle.kfs_plan.specs.declared.submission.Fault.TheVariants as faults
use Rattle.kfs_plan.proofs.Verdicts.{bad_log, bad_log_is_fault, wrong_client, bad_plan, bad_plan_is_fault}
use Rattle.kfs_plan.proofs.judgement.read_submission.Goals as goal

pub returns-in-Err-clause-read : goal.returns-in-Err-clause-read
returns-in-Err-clause-read g c s client row =
    let bytes : IsBytes c.args.plan.now = λ i. omega (arith, c.type_inv.plan i) in
    let told = c.in_ok-unless_refused-in-Err.ensures.fault in
    subst (λ f. IsVerdict {A = g.row.A.Denot} s (submission_with c.args.number c.args.log.now c.args.plan.now) (outcomes.No (faults.BadLog f))) (sym told.0)
    (bad_log g.row.A.Denot s (submission_with c.args.number c.args.log.now c.args.plan.now) client row bytes c.in-Err.fault (subst (λ f. f ≢ spelling.OutOfMemory) told.0 told.1) c.in-Err.ensures.found)

pub returns-then-log-number-clause-read : goal.returns-then-log-number-clause-read
returns-then-log-number-clause-read g c s client row =
    let bytes : IsBytes c.args.plan.now = λ i. omega (arith, c.type_inv.plan i) in
    wrong_client g.row.A.Denot s (submission_with c.args.number c.args.log.now c.args.plan.now) client row c.in-Ok.log c.in-Ok.ensures.found bytes c.if-log-number.true

pub returns-in-Err-decode_borrowed_plan-clause-read : goal.returns-in-Err-decode_borrowed_plan-clause-read
returns-in-Err-decode_borrowed_plan-clause-read g c s client row =
    let told = c.in_ok-unless_refused-in-Err-decode_borrowed_plan.ensures.fault in
    subst (λ f. IsVerdict {A = g.row.A.Denot} s (submission_with c.args.number c.args.log.now c.args.plan.now) (outcomes.No (faults.BadPlan f))) (sym told.0)
    (bad_plan g.row.A.Denot s (submission_with c.args.number c.args.log.now c.args.plan.now) client row c.in-Ok.log c.in-Ok.ensures.found c.if-log-number.false c.in-Err-decode_borrowed_plan.fault (subst (λ f. f ≢ spelling.OutOfMemory) told.0 told.1) c.in-Err-decode_borrowed_plan.ensures.found)

pub returns-clause-read : goal.returns-clause-read
returns-clause-read g c = record {
  owner = c.if-log-number.false;
  log_read = c.in-Ok.ensures.found;
  plan_read = c.in-Ok-decode_borrowed_plan.ensures.found;
  within = c.in-Ok.ensures.spans;
  spanned = c.in-Ok.ensures.spanned;
}

pub returns-in-Err-clause-fault : goal.returns-in-Err-clause-fault
returns-in-Err-clause-fault g c =
    let told = c.in_ok-unless_refused-in-Err.ensures.fault in
    subst (λ f. IsSome (refusal_of (faults.BadLog f))) (sym told.0) (bad_log_is_fault c.in-Err.fault (subst (λ f. f ≢ spelling.OutOfMemory) told.0 told.1))

pub returns-in-Err-decode_borrowed_plan-clause-fault : goal.returns-in-Err-decode_borrowed_plan-clause-fault
returns-in-Err-decode_borrowed_plan-clause-fault g c =
    let told = c.in_ok-unless_refused-in-Err-decode_borrowed_plan.ensures.fault in
    subst (λ f. IsSome (refusal_of (faults.BadPlan f))) (sym told.0) (bad_plan_is_fault c.in-Err-decode_borrowed_plan.fault (subst (λ f. f ≢ spelling.OutOfMemory) told.0 told.1))
