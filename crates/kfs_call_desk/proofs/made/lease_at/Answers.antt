use Rattle.kfs_desk.specs.declared.history.answers.Done.TheVariants as dones
use Rattle.kfs_model.specs.Machine as machine
use Rattle.kfs_lease.specs.Rows.Rows.{kind_of}
use Rattle.kfs_call_desk.proofs.Outcomes.{acting}
use Rattle.kfs_call_desk.proofs.made.lease_at.Goals as goal

pub returns : goal.returns
returns g c =
    acting c.args.desk.now c.lease_at-answer.new.self (machine.LeaseAt c.args.client c.args.number (kind_of c.args.kind) c.args.end) dones.Leased c.lease_at-answer.result c.acted.result c.lease_at-answer.ensures c.acted.ensures
