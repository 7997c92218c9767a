-- The view's clients are the desk's.
use Rattle.std.proofs.Common.{◌∙◌, ap, option_map, sym}
use Rattle.kfs_model.specs.Lease.{row_of}
use Rattle.kfs_program.proofs.EngineLemmas.PlanAnswers.{plan_served}
use Rattle.kfs_program.proofs.sessions.plans.answer_plan.Goals as goal

pub returns-in-Some-clause-ok : goal.returns-in-Some-clause-ok
returns-in-Some-clause-ok g c =
    let desk = c.args.desk.now in
    let shown = ap (λ rows. row_of rows c.args.number) c.in_ok-view.ensures.clients in
    let row = sym shown ∙ sym c.client.ensures ∙ ap (option_map (λ row. row.now)) c.in-Some.is in
    plan_served c.show_plan.result desk (row_of desk.state.clients c.args.number) c.in-Some.client.now c.args.log.now c.args.reply.now.items c.show_plan.new.reply.items row c.show_plan.ensures.ok

pub returns-clause-bad : goal.returns-clause-bad
returns-clause-bad g c out =
    sym (ap (λ rows. row_of rows c.args.number) c.in_ok-view.ensures.clients) ∙ sym c.client.ensures ∙ ap (option_map (λ row. row.now)) c.in-None.is
