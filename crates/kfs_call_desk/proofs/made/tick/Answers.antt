use Rattle.kfs_desk.specs.declared.history.answers.Done.TheVariants as dones
use Rattle.kfs_model.specs.Machine as machine
use Rattle.kfs_call_desk.proofs.Outcomes.{acting}
use Rattle.kfs_call_desk.proofs.made.tick.Goals as goal

pub returns : goal.returns
returns g c =
    acting c.args.desk.now c.tick-answer.new.self (machine.Tick c.args.moment) dones.Ticked c.tick-answer.result c.acted.result c.tick-answer.ensures c.acted.ensures
