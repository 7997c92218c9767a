use Rattle.std.proofs.Common.{rules}
use Rattle.kfs_shared.proofs.TurnsLemmas.Steps.{watches}
use Rattle.kfs_shared.proofs.seats.await_turn.Goals as goal

pub load-turn-requires : goal.load-turn-requires
load-turn-requires g c = (search rules, search rules, watches _ _ _ _ _ _ _ _ c.args.ticket (search rules))

pub load-again-requires : goal.load-again-requires
load-again-requires g c = (search rules, search rules, watches _ _ _ _ _ _ _ _ c.args.ticket (search rules))
