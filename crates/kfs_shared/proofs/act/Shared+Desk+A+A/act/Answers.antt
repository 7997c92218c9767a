use Rattle.kfs_desk.specs.Beginning.{beginning_of}
use Rattle.kfs_shared.specs.Calls.{IsActing}
use Rattle.kfs_shared.specs.Passes.{started, seen, own, seen_in, own_in}
use Rattle.kfs_shared.proofs.Landed.{answered_err, answered_ok}
use Rattle.kfs_shared.proofs.act.Shared+Desk+A+A.act.Goals as goal

pub returns-clause-ok : goal.returns-clause-ok
returns-clause-ok g c =
    answered_ok (started beginning_of c.args.self.now) (seen c.args.pass.now) (seen_in c.in-Some.turn) (seen_in c.act-turn.result.0) (seen c.end_turn.new.pass) (own c.args.pass.now) (own_in c.in-Some.turn) (own_in c.act-turn.result.0) (own c.end_turn.new.pass)
    (λ reply. reply.position) (IsActing c.args.act) c.act-turn.result.1 c.in-Some.ensures.begins c.in-Some.ensures.own c.end_turn.ensures.seen c.end_turn.ensures.own c.act-turn.ensures.ok

pub returns-clause-err : goal.returns-clause-err
returns-clause-err g c =
    answered_err (started beginning_of c.args.self.now) (seen c.args.pass.now) (seen_in c.in-Some.turn) (seen_in c.act-turn.result.0) (seen c.end_turn.new.pass) _ (λ why. why) c.act-turn.result.1
    c.in-Some.ensures.begins c.end_turn.ensures.seen c.act-turn.ensures.err
