-- What a submission over the boundary comes to.
use Rattle.std.specs.Prelude.{◌≡◌, ℕ, false, List, length}
use Rattle.kfs_desk.specs.declared.history.answers.Reply.{Reply}
use Rattle.kfs_plan.specs.Judging.{submission_with}
use Rattle.kfs_desk.specs.Machine.{Desk, IsAnswered}
use Rattle.kfs_c.specs.declared.submission.numbers.ReplyNumbers.{ReplyNumbers}
use Rattle.kfs_c.specs.Submission.Told.{reply_told}

-- the docket has as many rows as it may have
abbrev pub IsFull : Desk → Type 0
IsFull desk = length desk.docket ≡ desk.limit

-- some answer of the desk to these bytes, as it is told
abbrev pub IsSubmitted : (client : ℕ) (log plan : List ℕ) → ReplyNumbers → (old new : Desk) → Type 0
IsSubmitted client log plan told old new =
    (answer : Reply) × IsAnswered old (submission_with client log plan) false answer new × (told ≡ reply_told answer)
