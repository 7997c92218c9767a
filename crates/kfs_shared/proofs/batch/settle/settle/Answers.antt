use Rattle.std.proofs.Common.{◌≡◌, ◌++◌, ◌∷◌, [], length, map, sym, ap, ◌∙◌, append_assoc, append-nil, length-append, arith}
use Rattle.std.specs.List.{flat_map}
use Rattle.std.specs.Vec.Iter.{into_iter_items}
use Rattle.std.proofs.lemmas.List.{nil_from_length}
use Rattle.kfs_shared.specs.Batch.Settled.{left_in, reply_in}
use Rattle.kfs_shared.proofs.BatchLemmas.Batches.{left_short}
use Rattle.kfs_shared.proofs.batch.settle.settle.Goals as goal

pub loop-job-preserved : goal.loop-job-preserved
loop-job-preserved g c =
    let at = c.loop-job in
    let steps = c.in-Some.ensures.steps.0 in
    let counted = ap length steps in
    let job = c.in-Some.job in
    let rest = into_iter_items c.next.new.self in
    record {
      replies = at.invariant.replies ∙ (ap (λ js. at.replies.items ++ map (λ job. reply_in job.hand) js) steps ∙ (sym (append_assoc at.replies.items (reply_in job.hand ∷ []) (map (λ job. reply_in job.hand) rest))
          ∙ ap (λ front. front ++ map (λ job. reply_in job.hand) rest) (sym c.settle_one.ensures.replies)));
      left = at.invariant.left ∙ (ap (λ js. at.left.items ++ flat_map (λ job. left_in job.number job.hand) js) steps ∙ (sym (append_assoc at.left.items (left_in job.number job.hand) (flat_map (λ job. left_in job.number job.hand) rest))
          ∙ ap (λ front. front ++ flat_map (λ job. left_in job.number job.hand) rest) (sym c.settle_one.ensures.left)));
      rooms =
          let rooms = at.invariant.rooms in
          let one = rooms.0 in
          let other = rooms.1 in
          let capacity = c.settle_one.ensures.capacity in
          let more = ap length c.settle_one.ensures.replies ∙ length-append at.replies.items (reply_in job.hand ∷ []) in
          let left = ap length c.settle_one.ensures.left ∙ length-append at.left.items (left_in job.number job.hand) in
          let short = left_short job.number job.hand in
          let a = capacity.0 in
          let b = capacity.1 in
          (omega arith, omega arith);
      count = let was = at.invariant.count in let gone = c.in-Some.ensures.steps.1 in omega arith;
    }

pub returns-clause-replies : goal.returns-clause-replies
returns-clause-replies g c =
    let at = c.loop-job in
    let none = c.in-None.ensures.steps in
    let empty : into_iter_items at.job-iterator ≡ [] = nil_from_length _ (sym at.invariant.count ∙ none.0) in
    sym (at.invariant.replies ∙ (ap (λ js. at.replies.items ++ map (λ job. reply_in job.hand) js) empty ∙ append-nil at.replies.items)) ∙ ap (map (λ job. reply_in job.hand)) c.into_iter-job-iterator.ensures.into_iter_gives.0

pub returns-clause-left : goal.returns-clause-left
returns-clause-left g c =
    let at = c.loop-job in
    let none = c.in-None.ensures.steps in
    let empty : into_iter_items at.job-iterator ≡ [] = nil_from_length _ (sym at.invariant.count ∙ none.0) in
    sym (at.invariant.left ∙ (ap (λ js. at.left.items ++ flat_map (λ job. left_in job.number job.hand) js) empty ∙ append-nil at.left.items)) ∙ ap (flat_map (λ job. left_in job.number job.hand)) c.into_iter-job-iterator.ensures.into_iter_gives.0
