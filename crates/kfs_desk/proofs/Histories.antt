-- One submission more at the front of those that were handed in.
use Rattle.std.proofs.Common.{◌≡◌, false, ◌↔◌, List, ◌∷◌, length, Result, Ok, Err, refl, subst}
use Rattle.std.specs.Prelude.{IfOk, IfErr}
use Rattle.kfs_plan.specs.Judging.{submission_of}
use Rattle.kfs_plan.specs.declared.submission.Back.{Back}
use Rattle.kfs_plan.specs.declared.submission.Submission.{Submission}
use Rattle.kfs_plan.specs.declared.submission.Why.{Why}
use Rattle.kfs_plan.specs.declared.submission.Why.TheVariants.{OutOfMemory, DocketFull}
use Rattle.kfs_desk.specs.declared.history.answers.Reply.{Reply}
use Rattle.kfs_desk.specs.Machine.{Desk, IsAnswered, IsWhy, IsBackFor, RunsThrough}

module _ {A : Type 0} (old : Desk) (submission : Submission A) where
  -- what isn't answered has its reason
  why_not : (why : Why) → ◌↔◌ (why ≡ DocketFull) (length old.docket ≡ old.limit) → IsWhy old why
  why_not DocketFull full = full.0 refl
  why_not OutOfMemory full = λ at_limit. let never = full.1 at_limit in cc

  pub runs_first : (new : Desk) (submissions : List (Submission A)) (answer : Result Reply (Back A)) (answers : List (Result Reply (Back A))) (last : Desk)
      → IfOk answer (λ reply. IsAnswered old (submission_of submission) false reply new) → IfErr answer (λ back. (back.submission ≡ submission) × (new ≡ old))
      → ◌↔◌ (IsBackFor answer DocketFull) (length old.docket ≡ old.limit)
      → RunsThrough new submissions answers last → RunsThrough old (submission ∷ submissions) (answer ∷ answers) last
  runs_first new submissions (Ok reply) answers last answered same full rest = (new, answered, rest)
  runs_first new submissions (Err back) answers last answered same full rest =
      (same.0, why_not back.why full, subst (λ (d : Desk). RunsThrough d submissions answers last) same.1 rest)
