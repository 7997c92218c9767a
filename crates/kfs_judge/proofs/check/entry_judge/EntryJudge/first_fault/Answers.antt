-- Each check that passes leaves the ones behind it, and the first that fails is the answer.
use Rattle.std.proofs.Common.{ap, subst, ◌∙◌, map, arith, ◌≤◌, length, ◌≡◌, ℕ, ◌+◌, ◌<◌, List, ◌∷◌, drop, slice_index_or}
use Rattle.kfs_model.specs.Check.{EntryContext, first_failing, looked}
use Rattle.std.specs.Option.{option_map}
use Rattle.kfs_judge.specs.declared.check.check.Check.{Check as CodeCheck}
use Rattle.kfs_judge.specs.Check.Checks.{check_of, reason_of, entry_context_in}
use Rattle.kfs_judge.proofs.CheckLemmas.Failing.{failing-passes, failing-fails, failing-none}
use Rattle.kfs_judge.proofs.CheckLemmas.Lists.{map-drop-cons, map-drop-past}
use Rattle.kfs_judge.proofs.CheckLemmas.Looking.{looks_here, looks_behind}
use Rattle.kfs_judge_reads.specs.Reads.{IsPart}
use Rattle.kfs_judge_reads.proofs.Recording.{cut_short, goes_nowhere, goes_then, within_same, within_then, within_wider, part_of_itself}
use Rattle.kfs_judge.proofs.check.entry_judge.EntryJudge.first_fault.Goals as goal

-- the checks that are left begin with this one
left_begins : (p : EntryContext) (checks : List CodeCheck) (i : ℕ) (check : CodeCheck) → i < length checks → check ≡ slice_index_or checks i check
    → IsPart (looked p (map check_of (drop i checks))) (looked p (map check_of checks)) → IsPart (looked p (check_of check ∷ map check_of (drop (i + 1) checks))) (looked p (map check_of checks))
left_begins p checks i check inside is left = subst (λ cs. IsPart (looked p cs) (looked p (map check_of checks))) (map-drop-cons check_of checks i check inside is) left

pub loop-check-init : goal.loop-check-init
loop-check-init g c = record {
  goes = goes_nowhere c.args.recorder.now;
  passed = λ state agrees. λ i. first_failing (entry_context_in c.args.self.now state) (map check_of c.args.checks.now);
  left = λ state agrees. part_of_itself _;
  among = λ state agrees. within_same _ _;
}

pub returns-in_err-reason : goal.returns-in_err-reason
returns-in_err-reason g c = cut_short (goes_then c.loop-check.invariant.goes c.in_err-reason.ensures.goes) _ _ _ c.from_residual.ensures.0

pub returns-in-Some : goal.returns-in-Some
returns-in-Some g c = record {
  goes = goes_then c.loop-check.invariant.goes c.in_ok-reason.ensures.goes;
  known = λ state agrees.
      let p = entry_context_in c.args.self.now state in
      c.loop-check.invariant.passed state (c.in_ok-reason.ensures.goes.grows state agrees)
      ∙ ap (first_failing p) (map-drop-cons check_of c.args.checks.now c.loop-check.check-index c.check-item.result c.loop-check-test.true c.check-item.is)
      ∙ failing-fails p _ _ _ (c.in_ok-reason.ensures.known state agrees ∙ ap (option_map reason_of) c.in-Some.is);
  among = λ state agrees.
      let p = entry_context_in c.args.self.now state in
      let before = c.in_ok-reason.ensures.goes.grows state agrees in
      let left = left_begins p c.args.checks.now c.loop-check.check-index c.check-item.result c.loop-check-test.true c.check-item.is (c.loop-check.invariant.left state before) in
      within_then (c.loop-check.invariant.among state before) (within_wider (λ cell there. left cell (looks_here p (check_of c.check-item.result) _ cell there)) (c.in_ok-reason.ensures.among state agrees));
}

pub loop-check-preserved : goal.loop-check-preserved
loop-check-preserved g c = record {
  goes = goes_then c.loop-check.invariant.goes c.in_ok-reason.ensures.goes;
  passed = λ state agrees.
      let p = entry_context_in c.args.self.now state in
      c.loop-check.invariant.passed state (c.in_ok-reason.ensures.goes.grows state agrees)
      ∙ ap (first_failing p) (map-drop-cons check_of c.args.checks.now c.loop-check.check-index c.check-item.result c.loop-check-test.true c.check-item.is)
      ∙ failing-passes p _ _ (c.in_ok-reason.ensures.known state agrees ∙ ap (option_map reason_of) c.in_default.is);
  left = λ state agrees cell there.
      let p = entry_context_in c.args.self.now state in
      let left = left_begins p c.args.checks.now c.loop-check.check-index c.check-item.result c.loop-check-test.true c.check-item.is (c.loop-check.invariant.left state (c.in_ok-reason.ensures.goes.grows state agrees)) in
      left cell (looks_behind p (check_of c.check-item.result) _ (c.in_ok-reason.ensures.known state agrees ∙ ap (option_map reason_of) c.in_default.is) cell there);
  among = λ state agrees.
      let p = entry_context_in c.args.self.now state in
      let before = c.in_ok-reason.ensures.goes.grows state agrees in
      let left = left_begins p c.args.checks.now c.loop-check.check-index c.check-item.result c.loop-check-test.true c.check-item.is (c.loop-check.invariant.left state before) in
      within_then (c.loop-check.invariant.among state before) (within_wider (λ cell there. left cell (looks_here p (check_of c.check-item.result) _ cell there)) (c.in_ok-reason.ensures.among state agrees));
}

pub returns : goal.returns
returns g c = record {
  goes = c.loop-check.invariant.goes;
  known = λ state agrees.
      let p = entry_context_in c.args.self.now state in
      let past : length c.args.checks.now ≤ c.loop-check.check-index = omega arith in
      c.loop-check.invariant.passed state agrees ∙ ap (first_failing p) (map-drop-past check_of c.args.checks.now c.loop-check.check-index past) ∙ failing-none p;
  among = c.loop-check.invariant.among;
}
