use Rattle.std.proofs.Common.{ap, Ok}
use Rattle.std.proofs.lemmas.Result.{on_ok_weaker}
use Rattle.kfs_model.specs.Device.ShownTree.{shown_tree}
use Rattle.kfs_program.proofs.EngineLemmas.PlanLines.{none_said, plan_said}
use Rattle.kfs_program.proofs.sessions.plan_text.plan_line.Goals as goal

pub returns-in-Some : goal.returns-in-Some
returns-in-Some g c =
    let tree = shown_tree c.args.image.now in
    let made = rw c.in-Some.is at c.in_ok-bytes.ensures.made in
    on_ok_weaker c.push_plan.result (plan_said c.args.client.now tree c.args.log.now c.args.out.now.items c.push_plan.new.out.items c.in-Some.bytes.items c.as_slice.result.now c.as_slice.ensures.value made) c.push_plan.ensures

pub returns-in-None : goal.returns-in-None
returns-in-None g c =
    let tree = shown_tree c.args.image.now in
    let none = c.in_ok-bytes.ensures.none (ap Ok c.in-None.is) in
    on_ok_weaker c.push_none.result (none_said c.args.client.now tree c.args.log.now c.args.out.now.items c.push_none.new.out.items none) c.push_none.ensures
