use Rattle.std.proofs.Common.{drop, length-drop, arith}
use Rattle.kfs_server.proofs.LookUpsLemmas.Reads.{more_behind}
use Rattle.kfs_server.proofs.look_ups.reading.ends.Goals as goal

pub returns-else-at-body : goal.returns-else-at-body
returns-else-at-body c = more_behind (drop c.args.at c.args.body.now) (omega (arith, length-drop c.args.at c.args.body.now))
