-- How a submission is answered at a docket.
use Rattle.std.specs.Prelude.{◌≡◌, ℕ, List, [], ◌∷◌, ◌++◌, length, Result, Ok, Err}
use Rattle.kfs_model.specs.Judgement.{State}
use Rattle.kfs_model.specs.Machine.{Row}
use Rattle.kfs_desk.specs.History.Legal.{IsLegalDocket}
use Rattle.kfs_plan.specs.Judging.{submission_of}
use Rattle.kfs_desk.specs.declared.history.answers.Reply.{Reply}
use Rattle.kfs_plan.specs.declared.submission.Submission.{Submission}
use Rattle.kfs_desk.specs.Beginning.{Beginning}
use Rattle.kfs_desk.specs.Docket.{position_of}
use Rattle.kfs_desk.specs.Machine.{AnswerMeans, IsStep}
use Rattle.kfs_shared.specs.Turns.Lists.{StartsWith}
use Rattle.kfs_shared.specs.declared.want.SharedBack.{SharedBack}
use Rattle.kfs_shared.specs.declared.want.SharedWant.{SharedWant}
use Rattle.kfs_shared.specs.declared.want.SharedWant.TheVariants.{OutOfMemory, DocketFull, TurnsSpent}

-- The docket has the submission's row with this reply, at the reply's position. The rows before it lead to a state, from which
-- it leads on; and it means what the reply says
pub record IsRepliedIn {A : Type 0} (opening : State) (docket : List Row) (submission : Submission A) (reply : Reply) : Type 0 where
  pub earlier : List Row
  pub before : State
  pub row : Row
  pub after : State
  pub stands : StartsWith docket (earlier ++ row ∷ [])
  pub at : position_of reply ≡ length earlier
  pub led : IsLegalDocket opening earlier before
  pub leads : IsLegalDocket opening (earlier ++ row ∷ []) after
  pub step : IsStep before (submission_of submission) reply row after
  pub meaning : AnswerMeans before (submission_of submission) reply after

-- a submission is left for this reason: for a full docket only where it has as many rows as its limit
abbrev pub IsWhyLeft : Beginning → (docket : List Row) → SharedWant → Type 0
IsWhyLeft beginning docket OutOfMemory = Unit {0}
IsWhyLeft beginning docket DocketFull = length docket ≡ beginning.limit
IsWhyLeft beginning docket TurnsSpent = Unit {0}

-- it is answered in the docket, or comes back with the reason
abbrev pub IsAnswerTo : {A : Type 0} → Beginning → (docket : List Row) → Submission A → Result Reply (SharedBack A) → Type 0
IsAnswerTo beginning docket submission (Ok reply) = IsRepliedIn beginning.opening docket submission reply
IsAnswerTo beginning docket submission (Err back) = (back.submission ≡ submission) × IsWhyLeft beginning docket back.why

-- the position of the reply's row; none where there is no reply
abbrev pub positions_in : {E : Type 0} → Result Reply E → List ℕ
positions_in (Ok reply) = position_of reply ∷ []
positions_in (Err back) = []
