-- What a call of the desk over the boundary comes to, other than a submission of a plan.
use Rattle.std.specs.Prelude.{◌≡◌, ◌↔◌, ℕ, Bool, Option, List, map, IsFalse, if◌then◌else◌}
use Rattle.std.specs.Global.{Global}
use Rattle.kfs_model.specs.Judgement.{State}
use Rattle.kfs_model.specs.Lease.{LeaseKind, ReadLease, WriteLease}
use Rattle.kfs_model.specs.Machine.{Call, Lease, Drop, Tick, Migrate, LeaseAt}
use Rattle.kfs_model.specs.Migration.{Move}
use Rattle.kfs_desk.specs.declared.history.answers.ActReply.{ActReply}
use Rattle.kfs_desk.specs.declared.history.answers.Done.{Done}
use Rattle.kfs_desk.specs.declared.history.answers.Done.TheVariants.{Leased, Dropped, Ticked, Moved}
use Rattle.kfs_desk.specs.declared.history.answers.Reply.{Reply}
use Rattle.kfs_plan.specs.Judged.{Judged}
use Rattle.kfs_plan.specs.Judging.{submission_of, submission_with}
use Rattle.kfs_desk.specs.Docket.{is_rejudged}
use Rattle.kfs_desk.specs.Machine.{Desk, IsActed, IsAnswered, IsCurrent}
use Rattle.kfs_desk.specs.Verdict.Verdict.{IsVerdictOn, verdict_of}
use Rattle.kfs_c.specs.Holding.{OnVerdict}
use Rattle.kfs_c.specs.Reading.{IsPlanTaken}
use Rattle.kfs_c.specs.Submission.Submission.{IsSubmitted}
use Rattle.kfs_c.specs.Submission.Told.{reply_told}
use Rattle.kfs_c.specs.declared.held.Held.{Held}
use Rattle.kfs_c.specs.declared.submission.numbers.ReplyNumbers.{ReplyNumbers}
use Rattle.kfs_c.specs.declared.numbers.ActNumbers.{ActNumbers}
use Rattle.kfs_c.specs.declared.numbers.MoveRow.{MoveRow}
use Rattle.kfs_c.specs.Told.{act_told}

-- some answer of the desk to the verdict's submission, as it is told; it was revalidated exactly where
-- the verdict isn't current
abbrev pub IsLanded : Judged Global → ReplyNumbers → (old new : Desk) → Type 0
IsLanded judged told old new =
    (answer : Reply) × IsAnswered old (submission_of judged.submission) (is_rejudged answer) answer new
    × (IsFalse (is_rejudged answer) ↔ IsCurrent old.state judged) × (told ≡ reply_told answer)

-- the handle held a verdict, whose submission has such an answer
abbrev pub HasLanded : Option Held → ReplyNumbers → (old new : Desk) → Type 0
HasLanded held told old new = OnVerdict held (λ judged. IsLanded judged told old new)

-- the verdict is one of this state on these bytes
abbrev pub IsJudged : State → (client : ℕ) (log plan : List ℕ) → Judged Global → Type 0
IsJudged seen client log plan judged = IsVerdictOn seen (submission_with client log plan) (verdict_of judged)

-- some answer of the desk to the call, as it is told
abbrev pub IsCalled : Call → (words : ℕ → Done) → ActNumbers → (old new : Desk) → Type 0
IsCalled call words told old new = (answer : ActReply) × IsActed old call words answer new × (told ≡ act_told answer)

-- some answer of the desk to the log and the plan that is taken for it
abbrev pub IsLogSubmitted : (client : ℕ) (log : List ℕ) → ReplyNumbers → (old new : Desk) → Type 0
IsLogSubmitted client log told old new = (plan : List ℕ) × IsPlanTaken client log plan old × IsSubmitted client log plan told old new

abbrev pub kind_of_lease : (write : Bool) → LeaseKind
kind_of_lease write = if write then WriteLease else ReadLease

abbrev pub move_of : MoveRow → Move
move_of row = record { number = row.number; block = row.block; target = record { tier = row.tier; place = row.place } }

-- ---- each of these calls

abbrev pub IsLeased : (client : ℕ) (path : List ℕ) (write : Bool) (end : ℕ) → ActNumbers → (old new : Desk) → Type 0
IsLeased client path write end told old new = IsCalled (Lease client path (kind_of_lease write) end) Leased told old new

abbrev pub IsLeasedAt : (client number : ℕ) (write : Bool) (end : ℕ) → ActNumbers → (old new : Desk) → Type 0
IsLeasedAt client number write end told old new = IsCalled (LeaseAt client number (kind_of_lease write) end) Leased told old new

abbrev pub IsDropped : (client number : ℕ) → ActNumbers → (old new : Desk) → Type 0
IsDropped client number told old new = IsCalled (Drop client number) Dropped told old new

abbrev pub IsTicked : (moment : ℕ) → ActNumbers → (old new : Desk) → Type 0
IsTicked moment told old new = IsCalled (Tick moment) Ticked told old new

abbrev pub AreMoved : List MoveRow → ActNumbers → (old new : Desk) → Type 0
AreMoved rows told old new = IsCalled (Migrate (map move_of rows)) Moved told old new
