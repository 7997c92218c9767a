use Rattle.std.proofs.Common.{rules}
use Rattle.kfs_shared.proofs.TurnsLemmas.Steps.{joins, glances}
use Rattle.kfs_shared.proofs.pass.Shared.meet.Goals as goal

pub join_seat-requires : goal.join_seat-requires
join_seat-requires g c = (search rules, search rules, search rules, search rules, joins _ _ _ _ _ _ _ _ _ (search rules))

pub load-rows-requires : goal.load-rows-requires
load-rows-requires g c = (search rules, search rules, glances _ _ _ _ _ _ _ _)
