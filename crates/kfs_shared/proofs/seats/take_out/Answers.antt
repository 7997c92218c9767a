use Rattle.std.proofs.Common.{rules, Some}
use Rattle.kfs_shared.proofs.TurnsLemmas.Steps.{counts, alone}
use Rattle.kfs_shared.proofs.seats.take_out.Goals as goal

pub exchange-requires : goal.exchange-requires
exchange-requires g c = let out = c.requires.out in (search rules, (Some out.0, alone _ _ out.1))

pub load-requires : goal.load-requires
load-requires g c = (search rules, search rules, counts _ _ _ _ _ _ _ _ (search rules))
