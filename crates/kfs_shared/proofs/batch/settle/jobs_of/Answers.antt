use Rattle.std.proofs.Common.{◌≡◌, ◌+◌, ◌++◌, ◌∷◌, [], length, map, sym, ap, ◌∙◌, append_assoc, append-nil, length-append, arith}
use Rattle.std.specs.Vec.Iter.{into_iter_items}
use Rattle.std.proofs.lemmas.List.{map-append, nil_from_length}
use Rattle.kfs_shared.specs.Batch.Settled.{numbered}
use Rattle.kfs_shared.proofs.batch.settle.jobs_of.Goals as goal

pub loop-submission-preserved : goal.loop-submission-preserved
loop-submission-preserved g c =
    let at = c.loop-submission in
    let steps = c.in-Some.ensures.steps.0 in
    let pushed = c.push_reserved.ensures.items in
    let counted = ap length steps in
    record {
      made = at.invariant.made ∙ (ap (λ rest. map (λ job. (job.number, job.hand)) at.jobs.items ++ numbered at.number rest) steps
          ∙ (sym (append_assoc (map (λ job. (job.number, job.hand)) at.jobs.items) (_ ∷ []) (numbered (at.number + 1) (into_iter_items c.next.new.self)))
          ∙ ap (λ front. front ++ numbered (at.number + 1) (into_iter_items c.next.new.self)) (sym (ap (map (λ job. (job.number, job.hand))) pushed ∙ map-append (λ job. (job.number, job.hand)) at.jobs.items _))));
      few = let few = at.invariant.few in omega arith;
      room = let more = ap length pushed ∙ length-append at.jobs.items _ in let room = at.invariant.room in let capacity = c.push_reserved.ensures.capacity in omega arith;
      capacity = c.push_reserved.ensures.capacity ∙ at.invariant.capacity;
      count = let was = at.invariant.count in let gone = c.in-Some.ensures.steps.1 in omega arith;
    }

pub returns-clause-jobs : goal.returns-clause-jobs
returns-clause-jobs g c =
    let at = c.loop-submission in
    let none = c.in-None.ensures.steps in
    let empty : into_iter_items at.submission-iterator ≡ [] = nil_from_length _ (sym at.invariant.count ∙ none.0) in
    sym (at.invariant.made ∙ (ap (λ rest. map (λ job. (job.number, job.hand)) at.jobs.items ++ numbered at.number rest) empty ∙ append-nil (map (λ job. (job.number, job.hand)) at.jobs.items)))
    ∙ ap (numbered 0) c.into_iter-submission-iterator.ensures.into_iter_gives.0
