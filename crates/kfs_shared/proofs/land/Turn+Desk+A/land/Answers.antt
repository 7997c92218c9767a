use Rattle.std.proofs.Common.{rules, Err, Some, true, false, ap, refl, subst, sym, ◌∙◌}
use Rattle.kfs_desk.specs.Beginning.{beginning_of}
use Rattle.kfs_shared.specs.Turns.Stages.{ticket}
use Rattle.kfs_shared.specs.declared.turns.known.Stage.TheVariants.{Served}
use Rattle.kfs_shared.proofs.TurnsLemmas.Lists.{starts_same}
use Rattle.kfs_shared.specs.Calls.{IsUnanswered}
use Rattle.kfs_shared.specs.Passes.{started, seen_in}
use Rattle.kfs_shared.proofs.Landed.{added_served, full_in_turn, has_added, still_begun}
use Rattle.kfs_shared.proofs.land.Turn+Desk+A.land.Goals as goal
use Rattle.kfs_shared.proofs.land.Turn+Desk+A.land.Goals.{in-OutOfMemory, in-DocketFull}

pub returns-in-Ok-clause-ok : goal.returns-in-Ok-clause-ok
returns-in-Ok-clause-ok g c =
    let answered = c.in-Ok.ensures.answered in
    has_added _ c.args.self.seat.me.0.opening _ _ c.args.self.object c.land_keeping.new.self answered.row _ _ _ _ (search rules) (search rules) (starts_same _ _ c.args.self.whole) (search rules) (search rules) (search rules)
    answered.opening answered.limit answered.docket answered.position
    (record { step = answered.step; meaning = answered.meaning; rejudged = c.in-Ok.ensures.rejudged }) (search rules) (search rules)

pub invariant_of-result-clause-served : goal.invariant_of-result-clause-served
invariant_of-result-clause-served g c = let added = c.add_last-object.ensures.added in added_served c.args.self.seat.me.0 c.add_last-object.new.seat.me.0 _ c.land_keeping.new.self c.add_last-object.result (ap (λ me. me.0) added.1) added.0

pub invariant_of-result-clause-begun : goal.invariant_of-result-clause-begun
invariant_of-result-clause-begun g c =
    let added = c.add_last-object.ensures.added in
    let answered = c.in-Ok.ensures.answered in
    ap (λ me. me.0.opening) added.1 ∙ (still_begun c.args.self.seat.me.0.opening c.args.self.object c.land_keeping.new.self c.args.self.begun answered.opening answered.limit ∙ ap (λ d. Some (beginning_of d)) (sym added.0))

pub invariant_of-result-in-Err-clause-served : goal.invariant_of-result-in-Err-clause-served
invariant_of-result-in-Err-clause-served g c = c.args.self.served ∙ ap (λ d. Served (ticket c.args.self.seat.me.0.stage) d true) (sym c.in-Err.ensures.err)

pub returns-after-why-clause-err : goal.returns-after-why-clause-err
returns-after-why-clause-err g c =
    let turn = c.args.self in
    let b = started beginning_of c.args.shared.now in
    let rows = seen_in turn in
    elim c.match-why.branch [
      | in-OutOfMemory w ↦ subst (λ why. IsUnanswered b why rows rows false) (sym w.why-is) (starts_same rows rows refl)
      | in-DocketFull w ↦ subst (λ why. IsUnanswered b why rows rows false) (sym w.why-is)
          (starts_same rows rows refl, full_in_turn b turn.seat.me.0.opening turn.object rows (search rules) turn.begun turn.whole (c.in-Err.ensures.full.0 (ap Err w.in-DocketFull.is)))
    ]
