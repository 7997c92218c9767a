use Rattle.std.proofs.Common.{sym, ◌∙◌}
use Rattle.kfs_shared.specs.Passes.{seen, own, started}
use Rattle.kfs_shared.proofs.CrewLemmas.Together.{lie_dealt, are_done}
use Rattle.kfs_shared.proofs.crew.crew.work_dealt.Goals as goal

pub gather-requires-clause-dealt : goal.gather-requires-clause-dealt
gather-requires-clause-dealt g c =
    let d = c.requires.dealt in
    lie_dealt (λ w. w.duty) (λ v. v.items) g.T.Task.positions (g.T.Task.done (started g.D.Docketed.opening c.args.shared.now)) (seen c.args.pass) (seen c.work_and_meet-met.result) (own c.work_and_meet-met.result)
    c.args.workers.now c.work_and_meet-met.new.workers c.requires.some c.work_and_meet-met.ensures.achieved c.work_and_meet-met.ensures.once d.0 c.args.count d.1 d.2

pub returns-clause-done : goal.returns-clause-done
returns-clause-done g c = λ all lie long.
    are_done (λ w. w.duty) (λ v. v.items) g.T.Task.positions (g.T.Task.done (started g.D.Docketed.opening c.args.shared.now)) (seen c.args.pass) (seen c.work_and_meet-met.result) (own c.work_and_meet-met.result)
    c.args.workers.now c.work_and_meet-met.new.workers c.requires.some c.work_and_meet-met.ensures.achieved c.work_and_meet-met.ensures.once all c.gather.new.tasks.items lie c.gather.ensures.dealt (c.gather.ensures.count ∙ sym long)
