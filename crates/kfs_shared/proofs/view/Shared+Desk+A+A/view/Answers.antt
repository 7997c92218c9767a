use Rattle.kfs_desk.specs.Beginning.{beginning_of}
use Rattle.kfs_shared.proofs.TurnsLemmas.Lists.{starts_same}
use Rattle.std.proofs.Common.{refl}
use Rattle.kfs_shared.specs.Passes.{started, seen, seen_in}
use Rattle.kfs_shared.proofs.Landed.{viewed_err, viewed_ok}
use Rattle.kfs_shared.proofs.view.Shared+Desk+A+A.view.Goals as goal

pub returns-clause-ok : goal.returns-clause-ok
returns-clause-ok g c =
    viewed_ok (started beginning_of c.args.self.now) (seen c.args.pass.now) (seen_in c.in-Some.turn) (seen_in c.in-Some.turn) (seen c.end_turn.new.pass) c.view-view.result c.in-Some.ensures.begins (starts_same _ _ refl) c.end_turn.ensures.seen c.view-view.ensures.ok

pub returns-clause-err : goal.returns-clause-err
returns-clause-err g c = viewed_err (started beginning_of c.args.self.now) (seen c.args.pass.now) (seen_in c.in-Some.turn) (seen c.end_turn.new.pass) _ c.view-view.result c.in-Some.ensures.begins c.end_turn.ensures.seen c.view-view.ensures.err
