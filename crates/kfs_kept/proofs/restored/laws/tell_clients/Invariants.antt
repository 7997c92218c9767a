use Rattle.std.proofs.Common.{All, take}
use Rattle.kfs_model.specs.CleanStep.{IsClient}
use Rattle.kfs_kept.proofs.restored.laws.tell_clients.Given as goal

abbrev pub invariant-loop-client : goal.invariant-loop-client
invariant-loop-client l = All IsClient (take l.client-index l.clients)
