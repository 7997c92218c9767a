-- How jobs are made of submissions, and what is taken from them in the end.
use Rattle.std.specs.Prelude.{ℕ, ◌+◌, List, [], ◌∷◌, Option, Some, None}
use Rattle.kfs_desk.specs.declared.history.answers.Reply.{Reply}
use Rattle.kfs_plan.specs.declared.submission.Submission.{Submission}
use Rattle.kfs_shared.specs.declared.batch.end.Left.{Left}
use Rattle.kfs_shared.specs.declared.batch.job.Hand.{Hand}
use Rattle.kfs_shared.specs.declared.batch.job.Hand.TheVariants.{Waiting, Taken, Judged, Replied, Back}

abbrev pub reply_in : {A : Type 0} → Hand A → Option Reply
reply_in (Waiting submission) = None
reply_in Taken = None
reply_in (Judged judged) = None
reply_in (Replied reply) = Some reply
reply_in (Back back) = None

abbrev pub left_in : {A : Type 0} → (number : ℕ) → Hand A → List (Left A)
left_in number (Waiting submission) = []
left_in number Taken = []
left_in number (Judged judged) = []
left_in number (Replied reply) = []
left_in number (Back back) = record { number = number; submission = back.submission; why = back.why } ∷ []

-- the submissions, each with its number, wait
abbrev pub numbered : {A : Type 0} → (number : ℕ) → List (Submission A) → List (ℕ × Hand A)
numbered number [] = []
numbered number (s ∷ submissions) = (number, Waiting s) ∷ numbered (number + 1) submissions
