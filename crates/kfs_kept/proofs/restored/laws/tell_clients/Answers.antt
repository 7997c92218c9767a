use Rattle.std.proofs.Common.{All, subst}
use Rattle.std.proofs.lemmas.List.{take_all}
use Rattle.std.proofs.lemmas.List.Elements.{All-nil, All-more}
use Rattle.kfs_model.specs.CleanStep.{IsClient}
use Rattle.kfs_kept.proofs.restored.laws.tell_clients.Goals as goal

pub loop-client-init : goal.loop-client-init
loop-client-init c = All-nil IsClient

pub loop-client-preserved : goal.loop-client-preserved
loop-client-preserved c = All-more IsClient c.args.clients.now c.loop-client.client-index c.client-item.result c.loop-client-test.true c.loop-client.invariant (subst IsClient c.client-item.is c.number-number.ensures.in_range)

pub returns : goal.returns
returns c = subst (All IsClient) (take_all c.loop-client.client-index c.args.clients.now c.loop-client-test.false) c.loop-client.invariant
