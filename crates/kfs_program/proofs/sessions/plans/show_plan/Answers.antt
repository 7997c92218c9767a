-- The desk's image shows its tree.
use Rattle.std.proofs.Common.{subst}
use Rattle.kfs_program.specs.Engine.PlanLine.{AppendsPlan}
use Rattle.kfs_program.proofs.sessions.plans.show_plan.Goals as goal

pub returns-clause-ok : goal.returns-clause-ok
returns-clause-ok g c =
    subst (λ t. AppendsPlan c.args.client.now t c.args.log.now c.args.reply.now.items c.plan_line.new.out.items) c.image.ensures.shown.tree c.in_ok-plan_line.ensures
