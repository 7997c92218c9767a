-- What a worker makes of the submission that it was dealt.
use Rattle.std.specs.Prelude.{◌≡◌, ◌≢◌, ℕ, zero, suc, List, [], ◌∷◌, Option, Some, None, Result, Ok, Err}
use Rattle.kfs_model.specs.Machine.{Row}
use Rattle.kfs_plan.specs.Judged as verdicts
use Rattle.kfs_desk.specs.declared.history.answers.Reply.{Reply}
use Rattle.kfs_desk.specs.Beginning.{Beginning}
use Rattle.kfs_desk.specs.Docket.{position_of}
use Rattle.kfs_shared.specs.Crew.Crew.{Pairs}
use Rattle.kfs_shared.specs.Batch.Answers.{IsAnswerTo}
use Rattle.kfs_shared.specs.declared.want.SharedBack.{SharedBack}
use Rattle.kfs_shared.specs.declared.want.SharedWant.TheVariants.{DocketFull}
use Rattle.kfs_shared.specs.declared.batch.job.Hand.{Hand}
use Rattle.kfs_shared.specs.declared.batch.job.Hand.TheVariants.{Waiting, Taken, Judged, Replied, Back}

-- the position of the reply's row; none where there is no reply
abbrev pub positions_of : {A : Type 0} → Hand A → List ℕ
positions_of (Waiting submission) = []
positions_of Taken = []
positions_of (Judged judged) = []
positions_of (Replied reply) = position_of reply ∷ []
positions_of (Back back) = []

-- what waited is answered in the docket, or has come back with the reason
abbrev pub IsOutcome : {A : Type 0} → Beginning → (docket : List Row) → (before after : Hand A) → Type 0
IsOutcome beginning docket (Waiting submission) (Waiting other) = ⊥
IsOutcome beginning docket (Waiting submission) Taken = ⊥
IsOutcome beginning docket (Waiting submission) (Judged judged) = ⊥
IsOutcome beginning docket (Waiting submission) (Replied reply) = IsAnswerTo beginning docket submission (Ok reply)
IsOutcome beginning docket (Waiting submission) (Back back) = IsAnswerTo beginning docket submission (Err back)
IsOutcome beginning docket Taken after = Unit {0}
IsOutcome beginning docket (Judged judged) after = Unit {0}
IsOutcome beginning docket (Replied reply) after = Unit {0}
IsOutcome beginning docket (Back back) after = Unit {0}

-- the job has its number still, and this outcome
abbrev pub IsJobDone : {A : Type 0} → Beginning → (docket : List Row) → (number : ℕ) → (before : Hand A) → (number_then : ℕ) → (after : Hand A) → Type 0
IsJobDone beginning docket number before number_then after = (number_then ≡ number) × IsOutcome beginning docket before after

-- ---- the steps between

-- what waited is judged, or has come back for another reason than a full docket; what didn't is taken
abbrev pub IsJudged : {A : Type 0} → (before after : Hand A) → Type 0
IsJudged (Waiting submission) (Waiting other) = ⊥
IsJudged (Waiting submission) Taken = ⊥
IsJudged (Waiting submission) (Judged judged) = judged.value.submission ≡ submission
IsJudged (Waiting submission) (Replied reply) = ⊥
IsJudged (Waiting submission) (Back back) = (back.submission ≡ submission) × (back.why ≢ DocketFull)
IsJudged Taken after = after ≡ Taken
IsJudged (Judged judged) after = after ≡ Taken
IsJudged (Replied reply) after = after ≡ Taken
IsJudged (Back back) after = after ≡ Taken

-- the job has its number still, and is judged
abbrev pub IsJobJudged : {A : Type 0} → (number : ℕ) → (before : Hand A) → (number_then : ℕ) → (after : Hand A) → Type 0
IsJobJudged number before number_then after = (number_then ≡ number) × IsJudged before after

-- the verdict of a job, if it has one
abbrev pub verdict_of : {A : Type 0} → Hand A → Option (verdicts.Judged A)
verdict_of (Waiting submission) = None
verdict_of Taken = None
verdict_of (Judged judged) = Some judged.value
verdict_of (Replied reply) = None
verdict_of (Back back) = None

-- an answer, kept
abbrev pub kept : {A : Type 0} → Result Reply (SharedBack A) → Hand A
kept (Ok reply) = Replied reply
kept (Err back) = Back back

-- so many first elements are the same, and the others are paired so
abbrev pub FromOn : {X : Type 0} → (X → X → Type 0) → (count : ℕ) → List X → List X → Type 0
FromOn P zero xs ys = Pairs P xs ys
FromOn P (suc n) [] [] = Unit {0}
FromOn P (suc n) [] (y ∷ ys) = ⊥
FromOn P (suc n) (x ∷ xs) [] = ⊥
FromOn P (suc n) (x ∷ xs) (y ∷ ys) = (y ≡ x) × FromOn P n xs ys
