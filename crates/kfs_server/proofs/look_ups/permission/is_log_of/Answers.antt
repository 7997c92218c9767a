use Rattle.kfs_server.proofs.LookUpsLemmas.OwnLogs.{refused_for_log}
use Rattle.kfs_server.proofs.look_ups.permission.is_log_of.Goals as goal

pub returns-in_err-log-clause-turned_away : goal.returns-in_err-log-clause-turned_away
returns-in_err-log-clause-turned_away g c = refused_for_log c.args.bytes.now c.args.client c.in_err-log.field-0.0 c.from_residual.result c.in_err-log.ensures.found c.from_residual.ensures.1
