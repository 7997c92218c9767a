-- What a call of a shared desk tells: which rows its pass has seen then, which are its own, and what its answer means.
use Rattle.std.specs.Prelude.{◌≡◌, ◌↔◌, ℕ, Bool, true, List, [], ◌∷◌, ◌++◌, length, IsFalse, Result, Ok, Err}
use Rattle.kfs_model.specs.Judgement.{State}
use Rattle.kfs_model.specs.Machine.{Row}
use Rattle.kfs_desk.specs.History.Legal.{IsLegalDocket}
use Rattle.kfs_lease.specs.declared.act.Act.{Act}
use Rattle.kfs_judge.specs.Views.{View}
use Rattle.kfs_plan.specs.Judged.{Judged}
use Rattle.kfs_plan.specs.Judging.{submission_of}
use Rattle.kfs_plan.specs.declared.submission.Submission.{Submission}
use Rattle.kfs_desk.specs.declared.desk.Landed.{Landed}
use Rattle.kfs_desk.specs.declared.history.answers.ActReply.{ActReply}
use Rattle.kfs_desk.specs.declared.history.answers.Reply.{Reply}
use Rattle.kfs_desk.specs.Beginning.{Beginning, IsDocketFrom}
use Rattle.kfs_desk.specs.Docket.{is_rejudged}
use Rattle.kfs_desk.specs.Machine.{AnswerMeans, IsCurrent, IsCallStep, IsStep, IsViewOf, call_of, done_by}
use Rattle.kfs_shared.specs.Turns.Lists.{StartsWith}
use Rattle.kfs_shared.specs.declared.want.SharedBack.{SharedBack}
use Rattle.kfs_shared.specs.declared.want.SharedWant.{SharedWant}
use Rattle.kfs_shared.specs.declared.want.SharedWant.TheVariants.{OutOfMemory, DocketFull, TurnsSpent}

-- A call has added a row. All rows that the pass had seen, then those of others, lead to the state before; the call's row
-- leads on from there, and P holds of it and of the states before and after. The pass has now seen all these rows and no
-- more, which are a docket that the desk may have; and its own rows are those before and this one, at its position
pub record HasAdded (beginning : Beginning) (seen : List Row) (own : List ℕ) (position : ℕ) (P : State → Row → State → Type 0) (seen_then : List Row) (own_then : List ℕ) : Type 0 where
  pub between : List Row
  pub before : State
  pub row : Row
  pub after : State
  pub led : IsLegalDocket beginning.opening (seen ++ between) before
  pub leads : IsLegalDocket beginning.opening seen_then after
  pub docket : IsDocketFrom beginning seen_then
  pub is : P before row after
  pub at : position ≡ length (seen ++ between)
  pub sees : seen_then ≡ (seen ++ between) ++ row ∷ []
  pub owns : own_then ≡ own ++ position ∷ []

-- The row is the submission with this reply, leads from the one state to the other, and means what the reply says. It was
-- judged again exactly where the state before doesn't agree with the verdict
pub record IsLanding {A : Type 0} (judged : Judged A) (reply : Reply) (before : State) (row : Row) (after : State) : Type 0 where
  pub step : IsStep before (submission_of judged.submission) reply row after
  pub meaning : AnswerMeans before (submission_of judged.submission) reply after
  pub rejudged : IsFalse (is_rejudged reply) ↔ IsCurrent before judged

-- the answer to a verdict that its caller kept: the reply, or the submission with the reason
abbrev pub answer_of : {A : Type 0} → Submission A → Result (Landed A) SharedWant → Result Reply (SharedBack A)
answer_of submission (Ok landed) = Ok landed.reply
answer_of submission (Err why) = Err record { submission = submission; why = why }

-- the row is the call for leases with this answer, and leads from the one state to the other
abbrev pub IsActing : Act → ActReply → (before : State) → Row → (after : State) → Type 0
IsActing act reply before row after = IsCallStep before (call_of act) (done_by act) reply.answer row after

-- The view is of the state to which all rows lead that were seen then. These begin with those seen before, and are a docket
-- that the desk may have
pub record IsViewAfter {A : Type 0} (beginning : Beginning) (view : View A) (seen seen_then : List Row) : Type 0 where
  pub state : State
  pub leads : IsLegalDocket beginning.opening seen_then state
  pub docket : IsDocketFrom beginning seen_then
  pub shows : IsViewOf view state
  pub begins : StartsWith seen_then seen

-- The call has added no row, and all rows that had been seen are seen then: more may be, where memory ran out; a full
-- docket has as many as its limit; and where no ticket is left, the pass has found so, and has seen what it had seen
abbrev pub IsUnanswered : Beginning → SharedWant → (seen seen_then : List Row) → (ended : Bool) → Type 0
IsUnanswered beginning OutOfMemory seen seen_then ended = StartsWith seen_then seen
IsUnanswered beginning DocketFull seen seen_then ended = StartsWith seen_then seen × (length seen_then ≡ beginning.limit)
IsUnanswered beginning TurnsSpent seen seen_then ended = (ended ≡ true) × (seen_then ≡ seen)
