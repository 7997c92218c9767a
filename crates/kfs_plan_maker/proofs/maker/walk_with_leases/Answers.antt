use Rattle.std.proofs.Common.{ap, ◌∙◌}
use Rattle.std.specs.List.{flat_map}
use Rattle.kfs_model.specs.Tree.{target}
use Rattle.kfs_lease.specs.Writer.{leases_of_writer}
use Rattle.kfs_plan_maker.specs.AskedLeases.{named_in}
use Rattle.kfs_plan_maker.proofs.ViewWalks.{leased_walk}
use Rattle.kfs_plan_maker.proofs.maker.walk_with_leases.Goals as goal

pub returns-clause-walk : goal.returns-clause-walk
returns-clause-walk g c =
    let log = c.args.log.now in
    let shown = c.deref.ensures ∙ c.shape.ensures.shape in
    let numbers = c.in_ok-numbers.ensures ∙ (λ i. flat_map (named_in (target (shown i).names)) (c.as_slice.ensures i)) in
    let leases = c.in_ok-view.ensures.leases ∙ c.in_ok-leases.ensures ∙ ap (leases_of_writer log.client) c.as_slice-2.ensures.value in
    leased_walk c.args.image.now c.shape.ensures.lawful c.args.client.now log c.in_ok-numbers.numbers.items c.in_ok-view.view c.in_ok-walk.walk
    numbers c.in_ok-view.ensures.contents leases c.in_ok-view.ensures.clients c.requires.owner c.in_ok-walk.ensures.known c.in_ok-walk.ensures.view_agrees
