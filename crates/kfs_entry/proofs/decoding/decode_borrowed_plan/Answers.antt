use Rattle.std.proofs.Common.{◌≡◌, arith}
use Rattle.kfs_model.specs.Spelling.{PlanAnswer}
use Rattle.kfs_entry.specs.Answers.{plan_of}
use Rattle.kfs_entry.proofs.Answered.{Answered-weaker}
use Rattle.kfs_model.proofs.OnePlanAnswer.{one_plan_answer}
use Rattle.kfs_entry.proofs.decoding.decode_borrowed_plan.Goals as goal

pub returns-clause-only : goal.returns-clause-only
returns-clause-only g c = λ answer is.
    let source = c.args.source.now in
    Answered-weaker plan_of (PlanAnswer source) (λ given. given ≡ answer) (λ given found. one_plan_answer source (λ i. omega (arith, c.type_inv.source i)) given answer found is) c.plan_in.result c.plan_in.ensures
