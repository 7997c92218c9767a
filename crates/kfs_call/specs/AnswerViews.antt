-- The code's answers, as the definitions have them.
use Rattle.kfs_call.specs.AnswerRow as spelled
use Rattle.kfs_call.specs.declared.answer.FaultRow.{FaultRow}
use Rattle.kfs_call.specs.declared.answer.Told.{Told}
use Rattle.kfs_call.specs.declared.answer.Told.TheVariants as tolds
use Rattle.kfs_call.specs.declared.answer.AnswerRow.{AnswerRow}

abbrev pub fault_shown : FaultRow → spelled.FaultRow
fault_shown f = record { code = f.code; reason = f.reason; index = f.index; detail = f.detail }

abbrev pub told_shown : Told → spelled.Told
told_shown (tolds.Yes rejudged need) = spelled.Yes rejudged need
told_shown (tolds.No rejudged fault) = spelled.No rejudged (fault_shown fault)
told_shown (tolds.NoRoom rejudged need free) = spelled.NoRoom rejudged need free
told_shown (tolds.Leased number) = spelled.Leased number
told_shown (tolds.Dropped number) = spelled.Dropped number
told_shown (tolds.Moved number) = spelled.Moved number
told_shown (tolds.Ticked moment) = spelled.Ticked moment
told_shown (tolds.LeaseRefused fault) = spelled.LeaseRefused (fault_shown fault)
told_shown (tolds.MovesRefused fault) = spelled.MovesRefused (fault_shown fault)

abbrev pub answer_shown : AnswerRow → spelled.AnswerRow
answer_shown answer = record { position = answer.position; told = told_shown answer.told }
