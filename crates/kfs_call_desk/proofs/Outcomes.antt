-- What the desk answered, as it is told.
use Rattle.std.proofs.Common.{◌≡◌, ◌↔◌, ℕ, false, length, Result, Ok, Err, refl, sym, subst}
use Rattle.std.specs.Prelude.{IfOk, OnErr, IsErrOf}
use Rattle.kfs_model.specs.Judgement.{Submission}
use Rattle.kfs_model.specs.Machine as machine
use Rattle.kfs_desk.specs.History.Legal.{IsLegalDocket}
use Rattle.kfs_desk.specs.Machine.{Desk, IsAnswered, IsCallOf}
use Rattle.kfs_desk.specs.declared.history.answers.Done.{Done}
use Rattle.kfs_desk.specs.declared.history.answers.ActReply.{ActReply}
use Rattle.kfs_desk.specs.declared.history.answers.Reply.{Reply}
use Rattle.kfs_desk.specs.declared.history.answers.Unanswered.{Unanswered}
use Rattle.kfs_desk.specs.declared.history.answers.Unanswered.TheVariants as unanswered
use Rattle.kfs_plan.specs.declared.submission.Why.{Why}
use Rattle.kfs_plan.specs.declared.submission.Why.TheVariants as whys
use Rattle.kfs_call_desk.specs.Calls.{IsActing, IsSubmitting, IsOutcome, IsSameAct, IsSameReply}
use Rattle.kfs_call_desk.specs.declared.made.Called.{Called}
use Rattle.kfs_call_desk.specs.declared.made.CallFault.{CallFault}

-- the outcome of a call that is no submission
pub acting : (old new : Desk) (call : machine.Call) (words : ℕ → Done) (answer : Result ActReply Unanswered) (result : Result Called CallFault)
    → IsCallOf old call words answer new → IsSameAct answer result → IsOutcome (λ called. IsActing old call words called new) old result new
acting old new call words (Ok reply) result of same =
    subst (λ (r : Result Called CallFault). IsOutcome (λ called. IsActing old call words called new) old r new) (sym same) (record { made = of.done; unmade = tt; err = tt; legal = of.legal })
acting old new call words (Err unanswered.OutOfMemory) result of same =
    subst (λ (r : Result Called CallFault). IsOutcome (λ called. IsActing old call words called new) old r new) (sym same) (record { made = tt; unmade = tt; err = of.err; legal = of.legal })
acting old new call words (Err unanswered.DocketFull) result of same =
    subst (λ (r : Result Called CallFault). IsOutcome (λ called. IsActing old call words called new) old r new) (sym same) (record { made = tt; unmade = of.full.0 refl; err = of.err; legal = of.legal })

-- the outcome of a submission
pub submitting : (old new : Desk) (submission : Submission) (answer : Result Reply Why) (result : Result Called CallFault)
    → (IsErrOf answer whys.DocketFull ↔ (length old.docket ≡ old.limit)) → IfOk answer (λ reply. IsAnswered old submission false reply new) → OnErr answer (new ≡ old) → IsLegalDocket new.opening new.docket new.state
    → IsSameReply answer result → IsOutcome (λ called. IsSubmitting old submission called new) old result new
submitting old new submission (Ok reply) result full answered err legal same =
    subst (λ (r : Result Called CallFault). IsOutcome (λ called. IsSubmitting old submission called new) old r new) (sym same) (record { made = answered; unmade = tt; err = tt; legal = legal })
submitting old new submission (Err whys.OutOfMemory) result full answered err legal same =
    subst (λ (r : Result Called CallFault). IsOutcome (λ called. IsSubmitting old submission called new) old r new) (sym same) (record { made = tt; unmade = tt; err = err; legal = legal })
submitting old new submission (Err whys.DocketFull) result full answered err legal same =
    subst (λ (r : Result Called CallFault). IsOutcome (λ called. IsSubmitting old submission called new) old r new) (sym same) (record { made = tt; unmade = full.0 refl; err = err; legal = legal })
