-- Nothing is asked of no bytes.
use Rattle.std.specs.Prelude.{◌≡◌, ℕ, List, [], ◌∷◌, length, refl}
use Rattle.std.proofs.Common.{ap, ◌∙◌, arith}
use Rattle.kfs_model.specs.Check.{first_failing, payload_fits}
use Rattle.kfs_judge.specs.Check.Checks.{entry_context_in}
use Rattle.kfs_judge.proofs.CheckLemmas.Failing.{failing-none}
use Rattle.kfs_judge_reads.proofs.Recording.{goes_nowhere, within_same}
use Rattle.kfs_judge.proofs.step.write.end_fault.Goals as goal

nothing_is_asked : (offset : ℕ) (payload : List ℕ) → length payload ≡ 0 → payload_fits offset payload ≡ []
nothing_is_asked offset [] long = refl
nothing_is_asked offset (b ∷ bs) long = absurd (omega (arith, long))

pub returns-then-len-eq0 : goal.returns-then-len-eq0
returns-then-len-eq0 g c payload long = record {
  goes = goes_nowhere c.args.recorder.now;
  known = λ state agrees.
      let p = entry_context_in c.args.judge.now state in
      ap (first_failing p) (nothing_is_asked c.args.offset payload (long ∙ c.if-len-eq0.true)) ∙ failing-none p;
  among = λ state agrees. within_same _ _;
}
