-- Replies and their faults as the numbers that C is told.
use Rattle.std.specs.Prelude.{ℕ}
use Rattle.kfs_entry.specs.declared.fault.SpellFault.{SpellFault}
use Rattle.kfs_entry.specs.declared.fault.SpellFault.TheVariants as spelling
use Rattle.kfs_judge.specs.declared.check.check.Reason.{Reason}
use Rattle.kfs_judge.specs.declared.check.check.Reason.TheVariants as reasons
use Rattle.kfs_desk.specs.declared.history.answers.Reply.{Reply}
use Rattle.kfs_desk.specs.declared.history.answers.Reply.TheVariants as replies
use Rattle.kfs_plan.specs.declared.rows.RowFault.{RowFault}
use Rattle.kfs_plan.specs.declared.rows.RowFault.TheVariants as rows
use Rattle.kfs_plan.specs.declared.submission.Fault.{Fault}
use Rattle.kfs_plan.specs.declared.submission.Fault.TheVariants as faults
use Rattle.kfs_c.specs.declared.submission.numbers.FaultNumbers.{FaultNumbers}
use Rattle.kfs_c.specs.declared.submission.numbers.ReplyNumbers.{ReplyNumbers}

abbrev pub numbers : (code reason index detail : ℕ) → FaultNumbers
numbers code reason index detail = record { code = code; reason = reason; index = index; detail = detail }

abbrev pub no_fault : FaultNumbers
no_fault = numbers 0 0 0 0

-- ---- a submission

-- the bytes of a log or a plan, under the fault's code
abbrev pub spelling_told : (code : ℕ) → SpellFault → FaultNumbers
spelling_told code spelling.BadHeader = numbers code 1 0 0
spelling_told code (spelling.BadEntry index) = numbers code 2 index 0
spelling_told code spelling.Trailing = numbers code 3 0 0
spelling_told code (spelling.BadRow part index) = numbers code 4 index part
spelling_told code spelling.OutOfMemory = numbers code 0 0 0

-- an entry; of a missing lease the node is told
abbrev pub reason_told : (index : ℕ) → Reason → FaultNumbers
reason_told index reasons.NoSuchNode = numbers 5 1 index 0
reason_told index reasons.NotDirectory = numbers 5 2 index 0
reason_told index reasons.IsDirectory = numbers 5 3 index 0
reason_told index reasons.NoSuchName = numbers 5 4 index 0
reason_told index reasons.NameTaken = numbers 5 5 index 0
reason_told index reasons.NumberTaken = numbers 5 6 index 0
reason_told index reasons.NumberNotGranted = numbers 5 7 index 0
reason_told index reasons.NotEmpty = numbers 5 8 index 0
reason_told index reasons.BelowItself = numbers 5 9 index 0
reason_told index reasons.TooManyLinks = numbers 5 10 index 0
reason_told index reasons.TooBig = numbers 5 11 index 0
reason_told index reasons.NoSearch = numbers 5 12 index 0
reason_told index reasons.NoWrite = numbers 5 13 index 0
reason_told index reasons.NotOwner = numbers 5 14 index 0
reason_told index (reasons.NoLease number) = numbers 5 15 index number
reason_told index reasons.Sticky = numbers 5 16 index 0
reason_told index reasons.NotInGroup = numbers 5 17 index 0

-- a row of the plan
abbrev pub row_told : RowFault → FaultNumbers
row_told (rows.Names index) = numbers 6 1 index 0
row_told (rows.Nodes index) = numbers 6 2 index 0
row_told (rows.Pieces index) = numbers 6 3 index 0
row_told rows.OutOfMemory = numbers 6 0 0 0

abbrev pub fault_told : Fault → FaultNumbers
fault_told faults.UnknownClient = numbers 1 0 0 0
fault_told (faults.BadLog fault) = spelling_told 2 fault
fault_told faults.WrongClient = numbers 3 0 0 0
fault_told (faults.BadPlan fault) = spelling_told 4 fault
fault_told (faults.Entry fault) = reason_told fault.index fault.reason
fault_told (faults.Row fault) = row_told fault

abbrev pub reply_told : Reply → ReplyNumbers
reply_told (replies.Yes position rejudged need) =
    record { kind = 0; position = position; rejudged = rejudged; need = need; free = 0; fault = no_fault }
reply_told (replies.No position rejudged fault) =
    record { kind = 1; position = position; rejudged = rejudged; need = 0; free = 0; fault = fault_told fault }
reply_told (replies.NoRoom position rejudged need free) =
    record { kind = 2; position = position; rejudged = rejudged; need = need; free = free; fault = no_fault }
