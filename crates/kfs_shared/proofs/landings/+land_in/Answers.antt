use Rattle.std.proofs.Common.{◌++◌, false, eqb-true, subst, sym}
use Rattle.kfs_desk.specs.Beginning.{beginning_of}
use Rattle.kfs_shared.specs.Landings.{HaveLanded, KeepsAnswer}
use Rattle.kfs_shared.specs.Passes.{started, seen_in, own_in}
use Rattle.kfs_shared.proofs.InTurn.{both_landed, none_landed, single_landed}
use Rattle.kfs_shared.proofs.landings.+land_in.Goals as goal

pub returns-then-is_empty-clause-landed : goal.returns-then-is_empty-clause-landed
returns-then-is_empty-clause-landed g t c =
    none_landed (started beginning_of c.args.shared.now) (KeepsAnswer g.L.Landing.number g.L.Landing.keeps) false g.L.Landing.verdict (seen_in c.args.turn) (own_in c.args.turn) c.args.landings.now (eqb-true _ _ (sym c.if-is_empty.ensures))

pub returns-then-landings-eq1-clause-landed : goal.returns-then-landings-eq1-clause-landed
returns-then-landings-eq1-clause-landed g t c =
    single_landed (started beginning_of c.args.shared.now) (KeepsAnswer g.L.Landing.number g.L.Landing.keeps) false g.L.Landing.verdict (seen_in c.args.turn) (seen_in c.land_one.result) (own_in c.args.turn) (own_in c.land_one.result)
    c.args.landings.now c.index-landings-0.result c.land_one.new.landing c.if-landings-eq1.true c.land_one.ensures.landed

pub returns-clause-landed : goal.returns-clause-landed
returns-clause-landed g t c =
    let b = started beginning_of c.args.shared.now in
    let first = c.args.turn in
    let middle = c.land_in-turn.result in
    let last = c.land_in.result in
    subst (λ xs. HaveLanded b (KeepsAnswer g.L.Landing.number g.L.Landing.keeps) false g.L.Landing.verdict (seen_in first) (own_in first) xs (c.land_in-turn.new.landings ++ c.land_in.new.landings) (seen_in last) (own_in last)) (sym c.split_at_mut-earlier.ensures.value)
    (both_landed b (KeepsAnswer g.L.Landing.number g.L.Landing.keeps) false g.L.Landing.verdict (seen_in first) (seen_in middle) (seen_in last) (own_in first) (own_in middle) (own_in last) _ _ c.land_in-turn.new.landings c.land_in.new.landings
    c.land_in-turn.ensures.landed c.land_in.ensures.landed)
