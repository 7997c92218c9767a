use Rattle.std.proofs.Common.{sym, ◌∙◌}
use Rattle.kfs_shared.proofs.TurnsLemmas.Steps.{closes, closed_with, in_slot, none_said}
use Rattle.kfs_shared.proofs.pass.Shared.close.Goals as goal

pub unreachable-requires : goal.unreachable-requires
unreachable-requires g c =
    let last = closes _ _ _ _ _ _ _ _ _ c.close_with-closed.ensures.values.2 _ _ c.word-next.ensures c.word-turn.ensures c.if-next-turn.false in
    none_said last.0 (sym c.in-None.is ∙ in_slot _ _ _ c.take-slot.ensures.value last.1)

pub returns-clause-ok : goal.returns-clause-ok
returns-clause-ok g c = closed_with _ _ _ _ _ _ _ _ _ c.close_with-closed.ensures.values.2 _ _ c.word-next.ensures c.word-turn.ensures c.if-next-turn.false _ c.take-slot.ensures.value _ c.in-Some.is
