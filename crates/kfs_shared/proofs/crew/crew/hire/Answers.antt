use Rattle.std.proofs.Common.{◌≡◌, ◌++◌, ◌∷◌, [], length, map, sym, ap, ◌∙◌, append_assoc, append-nil, length-append, arith, rules}
use Rattle.std.specs.Vec.Iter.{into_iter_items}
use Rattle.std.proofs.lemmas.List.{map-append, nil_from_length}
use Rattle.kfs_shared.specs.Passes.{seen}
use Rattle.kfs_shared.proofs.CrewLemmas.Meetings.{hired}
use Rattle.kfs_shared.proofs.crew.crew.hire.Goals as goal

pub loop-duty-preserved : goal.loop-duty-preserved
loop-duty-preserved g c =
    let at = c.loop-duty in
    let steps = c.in-Some.ensures.steps.0 in
    let pushed = c.push_reserved.ensures.items in
    record {
      duties = at.invariant.duties ∙ (ap (λ rest. map (λ w. w.duty) at.workers.items ++ rest) steps ∙ (sym (append_assoc (map (λ w. w.duty) at.workers.items) (c.in-Some.duty ∷ []) (into_iter_items c.next.new.self))
          ∙ ap (λ front. front ++ into_iter_items c.next.new.self) (sym (ap (map (λ w. w.duty)) pushed ∙ map-append (λ w. w.duty) at.workers.items _))));
      room =
          let counted = ap length steps in
          let more = ap length pushed ∙ length-append at.workers.items _ in
          let room = at.invariant.room in
          let capacity = c.push_reserved.ensures.capacity in
          omega arith;
      count =
          let was = at.invariant.count in
          let gone = c.in-Some.ensures.steps.1 in
          let counted = ap length steps in
          omega arith;
      pass = search rules;
      hired = hired c.args.shared.now (seen c.args.pass) at.workers.items c.push_reserved.new.self.items _ pushed at.invariant.hired c.split-kept.ensures.passes.1 c.split-kept.ensures.own.1 (c.split-kept.ensures.seen.1 ∙ at.invariant.pass.1);
    }

pub returns-clause-shares : goal.returns-clause-shares
returns-clause-shares g c =
    let at = c.loop-duty in
    let none = c.in-None.ensures.steps in
    let empty : into_iter_items at.duty-iterator ≡ [] = nil_from_length _ (sym at.invariant.count ∙ none.0) in
    sym (at.invariant.duties ∙ (ap (λ rest. map (λ w. w.duty) at.workers.items ++ rest) empty ∙ append-nil (map (λ w. w.duty) at.workers.items))) ∙ c.into_iter-duty-iterator.ensures.into_iter_gives.0
