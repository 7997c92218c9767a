use Rattle.kfs_desk.specs.declared.history.answers.Done.TheVariants as dones
use Rattle.kfs_model.specs.Machine as machine
use Rattle.kfs_call_desk.proofs.Outcomes.{acting}
use Rattle.kfs_call_desk.proofs.made.drop_lease.Goals as goal

pub returns : goal.returns
returns g c =
    acting c.args.desk.now c.drop_lease-answer.new.self (machine.Drop c.args.client c.args.number) dones.Dropped c.drop_lease-answer.result c.acted.result c.drop_lease-answer.ensures c.acted.ensures
