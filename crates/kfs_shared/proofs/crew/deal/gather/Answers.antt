use Rattle.std.proofs.Common.{◌≡◌, ◌+◌, ◌-◌, ◌%◌, ◌<◌, ◌++◌, ◌∷◌, [], length, get_or, map, sym, ap, subst, ◌∙◌, length-append, arith}
use Rattle.kfs_shared.specs.Crew.Shares.{dealt}
use Rattle.kfs_shared.proofs.CrewLemmas.Shares.{dealt_length, gathered, next_back, put_length}
use Rattle.kfs_shared.proofs.crew.deal.gather.Goals as goal

pub take-requires-clause-some : goal.take-requires-clause-some
take-requires-clause-some g c =
    let at = c.loop-number in
    let lie = at.invariant.lie in
    let count = length c.args.workers.now in
    let long : length lie.0 ≡ at.number - 1 + 1 = let n = lie.2 in let some = c.loop-number-test.true in omega arith in
    subst (λ l. 0 < length (get_or l ((at.number - 1) % count) [])) (sym lie.1) (next_back count lie.0 (at.number - 1) c.requires.some long)

pub loop-number-preserved : goal.loop-number-preserved
loop-number-preserved g c =
    let at = c.loop-number in
    let lie = at.invariant.lie in
    let count = length c.args.workers.now in
    let n = at.number - 1 in
    let some = c.loop-number-test.true in
    let long : length lie.0 ≡ n + 1 = let m = lie.2 in omega arith in
    let taken = c.take.ensures.taken in
    let many = sym (ap length taken ∙ put_length (n % count) c.take.result (map (λ w. w.duty.items) c.take.new.workers)) ∙ (ap length lie.1 ∙ dealt_length count lie.0) in
    let pushed = c.push_reserved.ensures.items in
    let p = gathered count (map (λ w. w.duty.items) c.args.workers.now) (map (λ w. w.duty.items) c.take.new.workers) at.tasks.items lie.0 n c.take.result c.requires.some long many (sym lie.1 ∙ taken) lie.3 in
    record {
      lie = (p.0, p.1, p.2, p.3 ∙ ap (λ l. dealt count (l ++ p.0)) (sym pushed));
      all = let more = ap length pushed ∙ length-append at.tasks.items (c.take.result ∷ []) in let before = at.invariant.all in omega arith;
      capacity = c.push_reserved.ensures.capacity ∙ at.invariant.capacity;
      some = at.invariant.some;
    }
