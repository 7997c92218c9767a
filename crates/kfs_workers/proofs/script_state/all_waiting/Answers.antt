use Rattle.std.proofs.Common.{◌≡◌, ◌∷◌, [], ◌++◌, length, map, Some, sym, ap, ◌∙◌, append_assoc, append-nil, arith}
use Rattle.std.specs.Vec.Iter.{into_iter_items}
use Rattle.std.proofs.lemmas.List.{nil_from_length}
use Rattle.kfs_workers.proofs.script_state.all_waiting.Goals as goal

pub push_reserved-requires : goal.push_reserved-requires
push_reserved-requires g c =
    let steps = ap length c.in-Some.ensures.steps.0 in
    let room = c.loop-submission.invariant.room in
    omega arith

pub loop-submission-preserved : goal.loop-submission-preserved
loop-submission-preserved g c =
    let at = c.loop-submission in
    let steps = c.in-Some.ensures.steps.0 in
    record {
      items = at.invariant.items ∙ ap (λ rest. at.waiting.items ++ map Some rest) steps ∙ sym (append_assoc at.waiting.items (Some c.in-Some.submission ∷ []) (map Some (into_iter_items c.next.new.self)))
          ∙ ap (λ front. front ++ map Some (into_iter_items c.next.new.self)) (sym c.push_reserved.ensures.items);
      room =
          let counted = ap length steps in
          let room = at.invariant.room in
          let len = c.push_reserved.ensures.len in
          let capacity = c.push_reserved.ensures.capacity in
          omega arith;
      count =
          let was = at.invariant.count in
          let gone = c.in-Some.ensures.steps.1 in
          let counted = ap length steps in
          omega arith;
    }

pub returns : goal.returns
returns g c =
    let at = c.loop-submission in
    let none = c.in-None.ensures.steps in
    let empty : into_iter_items at.submission-iterator ≡ [] = nil_from_length _ (sym at.invariant.count ∙ none.0) in
    let all : map Some (into_iter_items c.into_iter-submission-iterator.result) ≡ at.waiting.items = at.invariant.items ∙ ap (λ rest. at.waiting.items ++ map Some rest) empty ∙ append-nil at.waiting.items in
    sym all ∙ ap (map Some) (c.into_iter-submission-iterator.ensures.into_iter_gives.0)
