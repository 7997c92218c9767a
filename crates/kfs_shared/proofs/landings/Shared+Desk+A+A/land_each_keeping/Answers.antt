use Rattle.std.proofs.Common.{rules, ◌≡◌, ◌≢◌, Result, Ok, Err, refl, sym, ◌∙◌}
use Rattle.std.specs.Prelude.{IfErr}
use Rattle.kfs_shared.specs.declared.want.SharedWant.{SharedWant}
use Rattle.kfs_shared.specs.declared.want.SharedWant.TheVariants.{OutOfMemory, DocketFull}
use Rattle.kfs_desk.specs.Beginning.{beginning_of}
use Rattle.kfs_shared.proofs.TurnsLemmas.Lists.{starts_same, starts_trans}
use Rattle.kfs_shared.specs.Landings.{KeepsAnswer}
use Rattle.kfs_shared.specs.Passes.{started, seen, own, ended, seen_in, own_in}
use Rattle.kfs_shared.proofs.Landed.{viewed_err, viewed_ok}
use Rattle.kfs_shared.proofs.InTurn.{handed_back, landed_begins, landed_then}
use Rattle.kfs_shared.proofs.landings.Shared+Desk+A+A.land_each_keeping.Goals as goal

pub returns-in_default-clause-landed : goal.returns-in_default-clause-landed
returns-in_default-clause-landed g c =
    let none = c.in_default.ensures.none in (
      seen c.args.pass.now,
      starts_same _ _ refl,
      handed_back (started beginning_of c.args.self.now) (KeepsAnswer g.L.Landing.number g.L.Landing.keeps) (ended c.begin_turn.new.pass) g.L.Landing.verdict (seen c.args.pass.now) (seen c.begin_turn.new.pass) (own c.args.pass.now) (own c.begin_turn.new.pass)
          c.args.landings.now c.hand_back.new.landings none.0 none.1 none.2 (c.hand_back.ensures (started beginning_of c.args.self.now) (seen c.args.pass.now) (own c.args.pass.now)),
    )

pub returns-in_default-clause-err : goal.returns-in_default-clause-err
returns-in_default-clause-err g c = let none = c.in_default.ensures.none in (none.0, none.1)

pub returns-clause-landed : goal.returns-clause-landed
returns-clause-landed g c = (
  seen_in c.in-Some.turn,
  c.in-Some.ensures.begins,
  landed_then (started beginning_of c.args.self.now) (KeepsAnswer g.L.Landing.number g.L.Landing.keeps) (ended c.end_turn.new.pass) g.L.Landing.verdict (seen_in c.in-Some.turn) (seen_in c.land_in-turn.result) (seen c.end_turn.new.pass)
      (own c.args.pass.now) (own_in c.in-Some.turn) (own_in c.land_in-turn.result) (own c.end_turn.new.pass) c.args.landings.now c.land_in-turn.new.landings
      c.in-Some.ensures.own c.end_turn.ensures.seen c.end_turn.ensures.own c.land_in-turn.ensures.landed,
)

pub returns-clause-ok : goal.returns-clause-ok
returns-clause-ok g c =
    viewed_ok (started beginning_of c.args.self.now) (seen c.args.pass.now) (seen_in c.in-Some.turn) (seen_in c.land_in-turn.result) (seen c.end_turn.new.pass) c.view-view.result c.in-Some.ensures.begins
    (landed_begins (started beginning_of c.args.self.now) (KeepsAnswer g.L.Landing.number g.L.Landing.keeps) _ g.L.Landing.verdict (seen_in c.in-Some.turn) (seen_in c.land_in-turn.result) (own_in c.in-Some.turn) (own_in c.land_in-turn.result)
    c.args.landings.now c.land_in-turn.new.landings c.land_in-turn.ensures.landed) c.end_turn.ensures.seen c.view-view.ensures.ok

pub returns-clause-err : goal.returns-clause-err
returns-clause-err g c =
    let more = landed_begins (started beginning_of c.args.self.now) (KeepsAnswer g.L.Landing.number g.L.Landing.keeps) _ g.L.Landing.verdict (seen_in c.in-Some.turn) (seen_in c.land_in-turn.result) (own_in c.in-Some.turn) (own_in c.land_in-turn.result)
    c.args.landings.now c.land_in-turn.new.landings c.land_in-turn.ensures.landed in
    viewed_err (started beginning_of c.args.self.now) (seen c.args.pass.now) (seen_in c.land_in-turn.result) (seen c.end_turn.new.pass) _ c.view-view.result
    (starts_trans (seen_in c.land_in-turn.result) (seen_in c.in-Some.turn) (seen c.args.pass.now) more c.in-Some.ensures.begins) c.end_turn.ensures.seen c.view-view.ensures.err

memory_alone : {A : Type 0} (r : Result A SharedWant) → IfErr r (λ why. why ≡ OutOfMemory) → IfErr r (λ why. why ≢ DocketFull)
memory_alone (Ok view) is = is
memory_alone (Err why) is = λ full. (let clash : OutOfMemory ≡ DocketFull = sym is ∙ full in search rules)

pub returns-clause-not_full : goal.returns-clause-not_full
returns-clause-not_full g c = memory_alone c.view-view.result c.view-view.ensures.err
