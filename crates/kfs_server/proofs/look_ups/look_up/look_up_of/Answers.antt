use Rattle.std.proofs.Common.{arith}
use Rattle.kfs_server.specs.LookUps.Views.{look_up_shown}
use Rattle.kfs_server.proofs.LookUpsLemmas.Reads.{is_none, is_read}
use Rattle.kfs_server.proofs.look_ups.look_up.look_up_of.Goals as goal

pub returns-clause-some : goal.returns-clause-some
returns-clause-some c = is_read look_up_shown c.args.body.now c.read_look_up.result (λ i. omega (arith, c.type_inv.body i)) c.read_look_up.ensures

pub returns-clause-none : goal.returns-clause-none
returns-clause-none c = is_none look_up_shown c.args.body.now c.read_look_up.result c.read_look_up.ensures
