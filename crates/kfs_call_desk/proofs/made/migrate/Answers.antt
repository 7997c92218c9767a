use Rattle.kfs_desk.specs.declared.history.answers.Done.TheVariants as dones
use Rattle.kfs_model.specs.Machine as machine
use Rattle.kfs_call_desk.proofs.Outcomes.{acting}
use Rattle.kfs_call_desk.proofs.made.migrate.Goals as goal

pub returns : goal.returns
returns g c =
    acting c.args.desk.now c.migrate-answer.new.self (machine.Migrate c.args.moves.now) dones.Moved c.migrate-answer.result c.acted.result c.migrate-answer.ensures.called c.acted.ensures
