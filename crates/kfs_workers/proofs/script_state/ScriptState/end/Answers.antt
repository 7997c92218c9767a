use Rattle.std.proofs.Common.{◌≡◌, [], ap, map, option_map, sym, ◌∙◌}
use Rattle.std.specs.Vec.Iter.{into_iter_items}
use Rattle.std.proofs.lemmas.List.{nil_from_length}
use Rattle.kfs_plan.specs.Judging.{submission_of}
use Rattle.kfs_workers.specs.Holding.{held_of}
use Rattle.kfs_workers.specs.Script.{ScriptState, all_returned}
use Rattle.kfs_workers.proofs.script_state.ScriptState.end.Goals as goal

pub returns-clause-left : goal.returns-clause-left
returns-clause-left g c =
    let inside = c.self.inside in
    let at = c.loop-hand in
    let left = map (option_map submission_of) at.left.items in
    let none = c.in-None.ensures.steps in
    let empty : into_iter_items at.hand-iterator ≡ [] = nil_from_length _ (sym at.invariant.count ∙ none.0) in
    ap (λ hands. all_returned (map (option_map held_of) hands) left) (sym empty)
    ∙ at.invariant.left
    ∙ ap (λ hands. all_returned (map (option_map held_of) hands) (map (option_map submission_of) inside.waiting.items)) c.into_iter-hand-iterator.ensures.into_iter_gives.0
    ∙ ap (λ (s : ScriptState). all_returned s.hands s.waiting) c.self.view_is
