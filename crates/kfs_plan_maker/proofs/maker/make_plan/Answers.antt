-- What is left of a plan's maker: each of its parts, put together.
use Rattle.std.proofs.Common.{◌≡◌, false, Option, Some, None, Result, Ok, Err, refl, sym, ap, subst, ◌∙◌, inl, inr}
use Rattle.std.specs.Prelude.{IfSome, IsErr, is_err}
use Rattle.kfs_entry.specs.Answers.{log_of, plan_of}
use Rattle.kfs_model.specs.Device.ShownTree.{shown_tree}
use Rattle.kfs_plan_maker.specs.Walks.{IsLogFrom}
use Rattle.kfs_plan_maker.proofs.PlansMade.{no_plan, plan_is_right, plan_is_short}
use Rattle.kfs_plan_maker.proofs.maker.make_plan.Goals as goal

value_of : {X E : Type 0} (result : Result X E) → is_err result ≡ false → (x : X) × (result ≡ Ok x)
value_of (Ok x) is = (x, refl)
value_of (Err e) is = cc

pub returns-in_default-clause-none : goal.returns-in_default-clause-none
returns-in_default-clause-none g c is = λ log own. absurd (c.in_ok-log.ensures.none (ap Ok c.in_default.is) log own.spelled (own.owner ∙ sym c.number.ensures.number))

pub returns-then-is_err-clause-none : goal.returns-then-is_err-clause-none
returns-then-is_err-clause-none g c is =
    let client = c.args.client.now in
    let given = subst (λ o. IfSome o (IsLogFrom {A = g.row.A.Denot} c.number.result c.args.source.now)) c.in-Some.is c.in_ok-log.ensures.own in
    let from = subst (λ n. IsLogFrom {A = g.row.A.Denot} n c.args.source.now c.in-Some.log) c.number.ensures.number given in
    let bad : IsErr c.in_ok-walk.walk.outcome = sym c.is_err.ensures.value ∙ c.if-is_err.true in
    no_plan client (shown_tree c.args.image.now) c.args.source.now c.in-Some.log from c.number.ensures.in_range c.in_ok-walk.ensures.lawful.tree.sound c.in_ok-walk.walk c.in_ok-walk.ensures.walk bad

pub returns-clause-made : goal.returns-clause-made
returns-clause-made g c =
    let client = c.args.client.now in
    let tree = shown_tree c.args.image.now in
    let given = subst (λ o. IfSome o (IsLogFrom {A = g.row.A.Denot} c.number.result c.args.source.now)) c.in-Some.is c.in_ok-log.ensures.own in
    let from = subst (λ n. IsLogFrom {A = g.row.A.Denot} n c.args.source.now c.in-Some.log) c.number.ensures.number given in
    let net = value_of c.in_ok-walk.walk.outcome (sym c.is_err.ensures.value ∙ c.if-is_err.false) in
    record {
      log = log_of c.args.source.now c.in-Some.log;
      own = record { spelled = from.spelled; owner = from.owner };
      plan = plan_of c.in_ok-plan.plan;
      spelled = c.in_ok-bytes.ensures;
      version = c.in_ok-plan.ensures.version;
      right = plan_is_right client tree c.args.source.now c.in-Some.log from c.number.ensures.in_range c.in_ok-walk.ensures.lawful.tree.sound c.in_ok-walk.walk c.in_ok-walk.ensures.walk net.0 net.1 c.in_ok-plan.plan c.in_ok-plan.ensures;
    }

pub encoded-requires-clause-short : goal.encoded-requires-clause-short
encoded-requires-clause-short g c =
    let client = c.args.client.now in
    let given = subst (λ o. IfSome o (IsLogFrom {A = g.row.A.Denot} c.number.result c.args.source.now)) c.in-Some.is c.in_ok-log.ensures.own in
    let from = subst (λ n. IsLogFrom {A = g.row.A.Denot} n c.args.source.now c.in-Some.log) c.number.ensures.number given in
    let net = value_of c.in_ok-walk.walk.outcome (sym c.is_err.ensures.value ∙ c.if-is_err.false) in
    plan_is_short client (shown_tree c.args.image.now) c.args.source.now c.in-Some.log from c.number.ensures.in_range c.in_ok-walk.ensures.lawful.tree.sound c.in_ok-walk.walk c.in_ok-walk.ensures.walk c.in_ok-walk.ensures.sizes net.0 net.1 c.in_ok-plan.plan c.in_ok-plan.ensures
