use Rattle.std.proofs.Common.{◌++◌, sym, subst, true}
use Rattle.kfs_shared.specs.Landings.{HaveLanded, KeepsAnswer}
use Rattle.kfs_shared.proofs.InTurn.{both_landed, single_landed}
use Rattle.kfs_shared.proofs.landings.+hand_back.Goals as goal

pub returns-then-landings-eq1 : goal.returns-then-landings-eq1
returns-then-landings-eq1 g t c = λ b s o.
    single_landed b (KeepsAnswer g.L.Landing.number g.L.Landing.keeps) true g.L.Landing.verdict s s o o c.args.landings.now c.index-landings-0.result c.hand_one_back.new.landing c.if-landings-eq1.true (c.hand_one_back.ensures b s o)

pub returns : goal.returns
returns g t c = λ b s o.
    subst (λ xs. HaveLanded b (KeepsAnswer g.L.Landing.number g.L.Landing.keeps) true g.L.Landing.verdict s o xs (c.hand_back.new.landings ++ c.hand_back-2.new.landings) s o) (sym c.split_at_mut-earlier.ensures.value)
    (both_landed b (KeepsAnswer g.L.Landing.number g.L.Landing.keeps) true g.L.Landing.verdict s s s o o o _ _ c.hand_back.new.landings c.hand_back-2.new.landings (c.hand_back.ensures b s o) (c.hand_back-2.ensures b s o))
