use Rattle.std.proofs.Common.{rules}
use Rattle.kfs_shared.proofs.TurnsLemmas.Steps.{adds}
use Rattle.kfs_shared.proofs.seats.add.Goals as goal

pub compare_exchange_with-requires : goal.compare_exchange_with-requires
compare_exchange_with-requires g c =
    let more = c.requires.row.1 in
    let opened = c.requires.opened in
    (search rules, search rules, adds _ _ _ _ _ _ _ _ _ _ _ c.requires.turn c.requires.count.0 more (_, opened.0, search rules, opened.1) c.requires.stands)
