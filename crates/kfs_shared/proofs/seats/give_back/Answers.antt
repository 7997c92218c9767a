use Rattle.std.proofs.Common.{rules}
use Rattle.kfs_shared.proofs.TurnsLemmas.Steps.{passes}
use Rattle.kfs_shared.proofs.seats.give_back.Goals as goal

pub fetch_add-turn-requires : goal.fetch_add-turn-requires
fetch_add-turn-requires g c = (search rules, search rules, passes _ _ _ _ _ _ _ _ c.args.object (search rules) (search rules) (search rules) (search rules) (search rules))
