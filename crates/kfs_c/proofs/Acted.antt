-- What the desk answers to a call, and what is told of it.
use Rattle.std.proofs.Common.{◌≡◌, ◌↔◌, ◌≤◌, ℕ, Result, Ok, Err, arith}
use Rattle.std.specs.Prelude.{IfOk, IsErrOf, OnErr}
use Rattle.kfs_model.specs.Machine.{Call}
use Rattle.kfs_desk.specs.declared.history.answers.ActReply.{ActReply}
use Rattle.kfs_desk.specs.declared.history.answers.Done.{Done}
use Rattle.kfs_desk.specs.declared.history.answers.Unanswered.{Unanswered}
use Rattle.kfs_desk.specs.declared.history.answers.Unanswered.TheVariants as unanswered
use Rattle.kfs_desk.specs.Machine.{Desk, IsCallOf}
use Rattle.kfs_c.specs.Submission.Submission.{IsFull}
use Rattle.kfs_c.specs.Calls.{IsCalled}
use Rattle.kfs_c.specs.Told.{act_told}
use Rattle.kfs_c.specs.declared.numbers.ActNumbers.{ActNumbers}

module _ (old new : Desk) (call : Call) (words : ℕ → Done) (status : ℕ) (told before : ActNumbers) where
  pub called : (result : Result ActReply Unanswered) → IsCallOf old call words result new
      → IfOk result (λ said. (status ≡ 0) × (told ≡ act_told said)) → OnErr result ((1 ≤ status) × (told ≡ before))
      → status ≡ 0 → IsCalled call words told old new
  called (Ok reply) is said silent done = (reply, is.done, said.1)
  called (Err why) is said silent done = let some = silent.0 in absurd (omega (arith, some, done))

  pub uncalled : (result : Result ActReply Unanswered) → IsCallOf old call words result new
      → IfOk result (λ said. (status ≡ 0) × (told ≡ act_told said)) → OnErr result ((1 ≤ status) × (told ≡ before))
      → 1 ≤ status → (new ≡ old) × (told ≡ before)
  uncalled (Ok reply) is said silent some = let none = said.0 in absurd (omega (arith, some, none))
  uncalled (Err why) is said silent some = (is.err, silent.1)

-- the docket is full exactly where that is told
pub full_told : (old new : Desk) (call : Call) (words : ℕ → Done) (status : ℕ) (result : Result ActReply Unanswered) → IsCallOf old call words result new
    → ((status ≡ 2) ↔ IsErrOf result unanswered.DocketFull) → ((status ≡ 2) ↔ IsFull old)
full_told old new call words status result is said = ((λ told. is.full.0 (said.0 told)), (λ full. said.1 (is.full.1 full)))
