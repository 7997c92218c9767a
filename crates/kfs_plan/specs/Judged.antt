-- A verdict, what it rests on, and the views in which it holds.
use Rattle.std.specs.Prelude.{◌≡◌, ℕ, List, Option}
use Rattle.kfs_model.specs.Access.{Client}
use Rattle.kfs_model.specs.Judgement.{State}
use Rattle.kfs_model.specs.Lease.{row_of}
use Rattle.kfs_judge.specs.Views.{View, Read, ReadAnswer, clients_of, client_sight_in, Agrees}
use Rattle.kfs_plan.specs.declared.submission.Submission.{Submission as CodeSubmission}
use Rattle.kfs_plan.specs.declared.submission.Outcome.{Outcome}
use Rattle.kfs_plan.specs.Judging.{AgreesWithReads, IsVerdict, submission_of}

-- a verdict: the submission, the client and the reads that it rests on, and the outcome
pub record Judged (A : Type 0) : Type 0 where
  pub submission : CodeSubmission A
  pub client : Option Client
  pub reads : List (Read × ReadAnswer)
  pub outcome : Outcome A (List ℕ)

-- in every state that has the client and agrees with the reads, the outcome is the verdict
abbrev pub IsKnown : {A : Type 0} → Judged A → Type 0
IsKnown judged = (s : State) → AgreesWithReads s judged.submission.client judged.client judged.reads → IsVerdict s (submission_of judged.submission) judged.outcome

-- the view has the verdict's client, and answers each read as recorded
pub record HoldsIn {A : Type 0} (view : View A) (judged : Judged A) : Type 0 where
  pub row : row_of (clients_of view) judged.submission.client ≡ judged.client
  pub agrees : Agrees judged.reads (client_sight_in view judged.submission.client)
