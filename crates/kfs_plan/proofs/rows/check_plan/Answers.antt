-- What is told of each run is so of the log's own, whose sizes the walk tells.
use Rattle.std.proofs.Common.{◌≡◌, map, Ok, refl, sym, subst, ap, ◌∙◌}
use Rattle.std.proofs.lemmas.Result.{err_from_is_err_and}
use Rattle.std.specs.Result.{result_copied}
use Rattle.kfs_model.specs.Sight.{client_sight}
use Rattle.kfs_types.specs.Views.{entry_of}
use Rattle.kfs_judge.specs.Walks.{ComesToTree}
use Rattle.kfs_plan.specs.PlanCheck.{TellsOfEachRun}
use Rattle.kfs_plan.proofs.PlanChecked.{refused_at_end, told_at_end}
use Rattle.kfs_plan.proofs.rows.check_plan.Goals as goal

pub returns-in_err-lent_log : goal.returns-in_err-lent_log
returns-in_err-lent_log g c client walk source within tree held fits agrees =
    let entries = map (entry_of source) c.args.log.now.entries in
    let sizes = c.args.walk.now.sizes.items in
    let net = c.unwrap-net.result.now in
    let is : c.args.walk.now.outcome ≡ Ok net = sym c.as_ref.ensures.value ∙ ap result_copied c.unwrap-net.ensures in
    let comes = subst (λ outcome. ComesToTree client held tree entries outcome sizes) is (walk source within tree held fits agrees) in
    let p = err_from_is_err_and c.from_residual.result c.from_residual.ensures.1 in
    rw (p.1, p.2) (refused_at_end client held tree entries sizes net comes c.args.plan.now)

pub returns-in_err-lent_plan : goal.returns-in_err-lent_plan
returns-in_err-lent_plan g c client walk source within tree held fits agrees =
    let entries = map (entry_of source) c.args.log.now.entries in
    let sizes = c.args.walk.now.sizes.items in
    let net = c.unwrap-net.result.now in
    let is : c.args.walk.now.outcome ≡ Ok net = sym c.as_ref.ensures.value ∙ ap result_copied c.unwrap-net.ensures in
    let comes = subst (λ outcome. ComesToTree client held tree entries outcome sizes) is (walk source within tree held fits agrees) in
    let p = err_from_is_err_and c.from_residual-in_err-lent_plan.result c.from_residual-in_err-lent_plan.ensures.1 in
    rw (p.1, p.2) (refused_at_end client held tree entries sizes net comes c.args.plan.now)

pub returns : goal.returns
returns g c client walk source within tree held fits agrees =
    let entries = map (entry_of source) c.args.log.now.entries in
    let sizes = c.args.walk.now.sizes.items in
    let net = c.unwrap-net.result.now in
    let is : c.args.walk.now.outcome ≡ Ok net = sym c.as_ref.ensures.value ∙ ap result_copied c.unwrap-net.ensures in
    let comes = subst (λ outcome. ComesToTree client held tree entries outcome sizes) is (walk source within tree held fits agrees) in
    let lent = subst (λ all. TellsOfEachRun all c.in_ok-lent_log.lent_log net c.in_ok-lent_plan.lent_plan c.check_rows.result) c.as_slice-sizes.ensures.value c.check_rows.ensures in
    let told = subst (λ plan. TellsOfEachRun sizes c.args.log.now net plan c.check_rows.result) c.in_ok-lent_plan.ensures
    (subst (λ log. TellsOfEachRun sizes log net c.in_ok-lent_plan.lent_plan c.check_rows.result) c.in_ok-lent_log.ensures lent) in
    told_at_end client held tree entries sizes net comes c.args.plan.now c.check_rows.result (told source within client (client_sight tree held) tree refl)
