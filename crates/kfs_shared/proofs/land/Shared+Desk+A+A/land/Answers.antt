use Rattle.std.proofs.Common.{◌≡◌}
use Rattle.kfs_desk.specs.Beginning.{beginning_of}
use Rattle.kfs_desk.specs.Docket.{position_of}
use Rattle.kfs_shared.specs.Calls.{IsLanding, IsUnanswered}
use Rattle.kfs_shared.specs.Passes.{started, seen, own, ended, seen_in, own_in}
use Rattle.kfs_shared.specs.Sharing.{AddsRow}
use Rattle.kfs_shared.proofs.Landed.{answer_back, answer_err, answer_ok, answer_same, answered_err, answered_ok, own_same}
use Rattle.kfs_shared.proofs.land.Shared+Desk+A+A.land.Goals as goal

pub returns-clause-ok : goal.returns-clause-ok
returns-clause-ok g c =
    let first = c.args.pass.now in
    let last = c.end_turn.new.pass in
    answer_ok (λ reply. AddsRow c.args.self.now first last (position_of reply) (IsLanding c.args.judged reply)) c.args.judged.submission c.land-turn.result.1 c.answer_of.result c.answer_of.ensures
    (answered_ok (started beginning_of c.args.self.now) (seen first) (seen_in c.in-Some.turn) (seen_in c.land-turn.result.0) (seen last) (own first) (own_in c.in-Some.turn) (own_in c.land-turn.result.0) (own last)
    (λ l. position_of l.reply) (λ l. IsLanding c.args.judged l.reply) c.land-turn.result.1 c.in-Some.ensures.begins c.in-Some.ensures.own c.end_turn.ensures.seen c.end_turn.ensures.own c.land-turn.ensures.ok)

pub returns-clause-back : goal.returns-clause-back
returns-clause-back g c = answer_back c.args.judged.submission c.land-turn.result.1 c.answer_of.result c.answer_of.ensures

pub returns-clause-err : goal.returns-clause-err
returns-clause-err g c =
    let b = started beginning_of c.args.self.now in
    let first = seen c.args.pass.now in
    let last = c.end_turn.new.pass in
    answer_err (λ why. IsUnanswered b why first (seen last) (ended last)) c.args.judged.submission c.land-turn.result.1 c.answer_of.result c.answer_of.ensures
    (answered_err b first (seen_in c.in-Some.turn) (seen_in c.land-turn.result.0) (seen last) (ended last) (λ why. why) c.land-turn.result.1 c.in-Some.ensures.begins c.end_turn.ensures.seen c.land-turn.ensures.err)

pub returns-clause-own : goal.returns-clause-own
returns-clause-own g c =
    let first = own c.args.pass.now in
    let last = own c.end_turn.new.pass in
    answer_same (last ≡ first) c.args.judged.submission c.land-turn.result.1 c.answer_of.result c.answer_of.ensures
    (own_same first (own_in c.in-Some.turn) (own_in c.land-turn.result.0) last c.land-turn.result.1 c.in-Some.ensures.own c.end_turn.ensures.own c.land-turn.ensures.own)
