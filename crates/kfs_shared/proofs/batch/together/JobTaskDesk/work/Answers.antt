use Rattle.kfs_desk.specs.Beginning.{beginning_of}
use Rattle.kfs_shared.specs.Passes.{started, seen, own, ended}
use Rattle.kfs_shared.specs.Crew.Tasks.{all_of}
use Rattle.kfs_shared.specs.Batch.Jobs.{positions_of}
use Rattle.kfs_shared.proofs.BatchLemmas.OneTurn.{all_done, all_worked, turn_worked}
use Rattle.kfs_shared.proofs.batch.together.JobTaskDesk.work.Goals as goal

pub returns-clause-worked : goal.returns-clause-worked
returns-clause-worked g c =
    let landed = c.land_each_keeping-landed.ensures.landed in
    let last = c.land_each_keeping-landed.new.pass in
    let own_then = own c.view_of-view.new.pass in
    turn_worked (seen c.args.pass.now) (seen c.view_of-view.new.pass) landed.0 (seen last) (own c.args.pass.now) own_then (own last) (all_of (λ job. positions_of job.hand) c.land_each_keeping-landed.new.landings)
    c.view_of-view.ensures.begins c.view_of-view.ensures.own landed.1
    (all_worked (λ j. j.number) (λ j. j.hand) (started beginning_of c.args.shared.now) (ended last) c.args.tasks.now c.judge_from.new.jobs c.land_each_keeping-landed.new.landings landed.0 (seen last) own_then (own last) c.judge_from.ensures landed.2)

pub returns-clause-done : goal.returns-clause-done
returns-clause-done g c =
    let landed = c.land_each_keeping-landed.ensures.landed in
    let last = c.land_each_keeping-landed.new.pass in
    all_done (λ j. j.number) (λ j. j.hand) (started beginning_of c.args.shared.now) (ended last) c.args.tasks.now c.judge_from.new.jobs c.land_each_keeping-landed.new.landings landed.0 (seen last) (own c.view_of-view.new.pass) (own last) c.judge_from.ensures landed.2
