-- Each step gives one more of the directories its stop.
use Rattle.std.proofs.Common.{◌≡◌, ◌++◌, ◌∷◌, [], ◌<◌, ℕ, List, length, length-append, drop, suc, slice_index_or, ap, sym, subst, append_assoc, arith, ◌∙◌}
use Rattle.std.specs.Prelude.{nat_eq}
use Rattle.std.specs.List.{IsDistinct}
use Rattle.std.proofs.Math.Seq.{drop-cons}
use Rattle.kfs_judge_reads.proofs.climbs.Climbs.follow.Goals as goal

-- the next of a list's elements goes to those before it
begins_further : (all some : List ℕ) (next : ℕ) → all ≡ some ++ drop (length some) all → length some < length all → next ≡ slice_index_or all (length some) 0 → all ≡ (some ++ next ∷ []) ++ drop (length (some ++ next ∷ [])) all
begins_further all some next begins more is =
    let last : length (some ++ next ∷ []) ≡ suc (length some) = omega (arith, length-append some (next ∷ [])) in
    begins ∙ ap (λ rest. some ++ rest) (drop-cons all (length some) 0 more ∙ λ i. sym is i ∷ drop (sym last i) all) ∙ sym (append_assoc some (next ∷ []) (drop (length (some ++ next ∷ [])) all))

pub loop-self-preserved : goal.loop-self-preserved
loop-self-preserved g c =
    let some = c.loop-self.self.moved in
    let here : c.len-in-loop-self.result ≡ length some.items = c.len-in-loop-self.ensures ∙ some.ok.0 in
    let more : length some.items < length c.args.moved.now = omega (arith, c.loop-self-test.true, c.len.ensures, some.ok.0) in
    record {
      once = subst (λ order. IsDistinct nat_eq order) (ap (λ order. order.keys) (sym c.in_ok-stop_at.ensures.order)) c.loop-self.invariant.once;
      links = λ parent hold. c.in_ok-stop_at.ensures.links parent (c.loop-self.invariant.links parent hold);
      stops = c.in_ok-stop_at.ensures.stops;
      begins = subst (λ taken. c.args.moved.now ≡ taken ++ drop (length taken) c.args.moved.now) (sym c.in_ok-stop_at.ensures.moved)
          (begins_further c.args.moved.now some.items (slice_index_or c.args.moved.now c.len-in-loop-self.result 0) c.loop-self.invariant.begins more (ap (λ place. slice_index_or c.args.moved.now place 0) here));
    }

pub returns-in_err-stop_at-clause-links : goal.returns-in_err-stop_at-clause-links
returns-in_err-stop_at-clause-links g c parent hold = c.in_err-stop_at.ensures.links parent (c.loop-self.invariant.links parent hold)
