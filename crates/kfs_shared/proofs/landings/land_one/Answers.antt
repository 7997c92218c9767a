use Rattle.std.proofs.Common.{sym, ◌∙◌}
use Rattle.kfs_desk.specs.Beginning.{beginning_of}
use Rattle.kfs_shared.specs.Landings.{KeepsAnswer}
use Rattle.kfs_shared.specs.Passes.{started, seen_in, own_in}
use Rattle.kfs_shared.proofs.InTurn.{is_answered, one_given}
use Rattle.kfs_shared.proofs.landings.land_one.Goals as goal

pub returns-clause-landed : goal.returns-clause-landed
returns-clause-landed g c =
    let b = started beginning_of c.args.shared.now in
    one_given b (KeepsAnswer g.L.Landing.number g.L.Landing.keeps) _ (g.L.Landing.verdict c.args.landing.now) c.in-Some.judged (seen_in c.args.turn) (seen_in c.land-turn.result.0) (own_in c.args.turn) (own_in c.land-turn.result.0)
    c.args.landing.now c.keep.new.self c.answer_of-answer.result (sym c.in-Some.ensures.verdict) (c.keep.ensures.number ∙ c.in-Some.ensures.number, c.keep.ensures.kept)
    (is_answered b _ c.in-Some.judged (seen_in c.args.turn) (seen_in c.land-turn.result.0) (own_in c.args.turn) (own_in c.land-turn.result.0) c.land-turn.result.1 c.answer_of-answer.result c.answer_of-answer.ensures c.land-turn.ensures.ok c.land-turn.ensures.err c.land-turn.ensures.own)
