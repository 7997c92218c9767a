use Rattle.std.proofs.Common.{rules, sym}
use Rattle.kfs_shared.proofs.TurnsLemmas.Lists.{starts_same}
use Rattle.kfs_shared.proofs.Landed.{is_view_after}
use Rattle.kfs_shared.proofs.view.Turn+Desk+A.view.Goals as goal

pub returns-in-Ok-clause-ok : goal.returns-in-Ok-clause-ok
returns-in-Ok-clause-ok g c =
    let turn = c.args.self.now in
    is_view_after _ turn.seat.me.0.opening c.in-Ok.view turn.object _ _ (search rules) turn.begun (starts_same _ _ turn.whole) c.row_count-rows.ensures.stands c.row_count-rows.ensures.legal (search rules) (sym turn.whole)
