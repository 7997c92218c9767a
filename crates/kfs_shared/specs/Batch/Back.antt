-- What comes back where there was no batch, or where its end isn't handed out.
use Rattle.std.specs.Prelude.{◌≡◌, ◌≢◌, ◌-◌, ◌⊎◌, ℕ, List, length, Option, Result, Ok, Err, Vec}
use Rattle.kfs_model.specs.Machine.{Row}
use Rattle.kfs_desk.specs.History.Legal.{IsLegalDocket}
use Rattle.kfs_desk.specs.declared.history.answers.Reply.{Reply}
use Rattle.kfs_plan.specs.declared.submission.Submission.{Submission}
use Rattle.kfs_desk.specs.Beginning.{Beginning, IsDocketFrom, beginning_of}
use Rattle.kfs_desk.specs.Machine.{Desk}
use Rattle.kfs_shared.specs.Turns.Turns.{IsUnreturned}
use Rattle.kfs_shared.specs.declared.turns.known.Known.{Known}
use Rattle.kfs_shared.specs.Crew.Tasks.{all_of}
use Rattle.kfs_shared.specs.Batch.Batch.{AreSettled, GoesOn, position_in}
use Rattle.kfs_shared.specs.declared.batch.end.BatchBack.{BatchBack}
use Rattle.kfs_shared.specs.declared.batch.end.BatchBack.TheVariants.{BadWorkers, OutOfMemory, Unreturned}
use Rattle.kfs_shared.specs.declared.batch.end.Left.{Left}

-- it comes back for the number of workers
abbrev pub IsForWorkers : {T A : Type 0} → Result T (BatchBack A) → Type 0
IsForWorkers (Ok end) = ⊥
IsForWorkers (Err (BadWorkers desk submissions)) = Unit {0}
IsForWorkers (Err (OutOfMemory desk submissions)) = ⊥
IsForWorkers (Err Unreturned) = ⊥

-- a desk that was begun so was shared, and its table ended with a ticket that was drawn and whose turn wasn't passed on
abbrev pub HasLostTurn : Beginning → Type 0
HasLostTurn beginning = (key : Desk) × (beginning_of key ≡ beginning) × (seat : ℕ) × (v : Known Desk Beginning Row)
    × IsUnreturned beginning_of (λ d. d.docket) IsDocketFrom (λ d. IsLegalDocket d.opening d.docket d.state) key seat v

-- a desk goes on from these rows with these submissions settled, and hasn't as many new rows as there are replies
abbrev pub HasOtherRows : {A : Type 0} → Beginning → (docket : List Row) → List (Submission A) → Type 0
HasOtherRows {A} beginning docket submissions = (desk : Desk) × (replies : List (Option Reply)) × (left : List (Left A))
    × GoesOn beginning docket desk × AreSettled beginning desk.docket 0 submissions replies left × (length desk.docket - length docket ≢ length (all_of position_in replies))

-- the batch has come to one of these two ends
abbrev pub HasLostDesk : {A : Type 0} → Beginning → (docket : List Row) → List (Submission A) → BatchBack A → Type 0
HasLostDesk beginning docket submissions (BadWorkers desk these) = ⊥
HasLostDesk beginning docket submissions (OutOfMemory desk these) = ⊥
HasLostDesk beginning docket submissions Unreturned = HasLostTurn beginning ⊎ HasOtherRows beginning docket submissions

-- what comes back is this desk with these submissions; nothing does where the desk is lost
abbrev pub AreBack : {A : Type 0} → Desk → Vec (Submission A) A → BatchBack A → Type 0
AreBack desk submissions (BadWorkers same these) = (same ≡ desk) × (these ≡ submissions)
AreBack desk submissions (OutOfMemory same these) = (same ≡ desk) × (these ≡ submissions)
AreBack desk submissions Unreturned = HasLostDesk (beginning_of desk) desk.docket submissions.items Unreturned
