-- What the machine answers, in the numbers of docs/FORMATS.md.
use Rattle.std.specs.Prelude.{◌≡◌, ℕ, false, IfSome, Result, Ok, Err}
use Rattle.kfs_model.specs.Check as checks
use Rattle.kfs_model.specs.FirstWrong as rows
use Rattle.kfs_model.specs.Judgement as judging
use Rattle.kfs_model.specs.Lease as leases
use Rattle.kfs_model.specs.Machine as machine
use Rattle.kfs_model.specs.Machine.{CallAnswer, CallFault, Done, NotDone, Replied}
use Rattle.kfs_model.specs.Migration as moves
use Rattle.kfs_model.specs.Run.{EntryFault}
use Rattle.kfs_model.specs.Spelling as spelling
use Rattle.kfs_call_desk.specs.declared.made.Called.{Called}
use Rattle.kfs_call_desk.specs.declared.made.Called.TheVariants.{Submitted, Acted}
use Rattle.kfs_desk.specs.Docket.{is_rejudged, position_of}
use Rattle.kfs_desk.specs.Machine.{call_fault_of, reply_of}
use Rattle.kfs_desk.specs.declared.history.answers.ActFault.{ActFault}
use Rattle.kfs_desk.specs.declared.history.answers.Done.{Done as CodeDone}
use Rattle.kfs_desk.specs.declared.history.answers.Done.TheVariants as dones
use Rattle.kfs_call.specs.AnswerRow.{AnswerRow, FaultRow, Told, Yes, No, NoRoom, Leased, Dropped, Moved, Ticked, LeaseRefused, MovesRefused}

abbrev pub numbers : (code reason index detail : ℕ) → FaultRow
numbers code reason index detail = record { code = code; reason = reason; index = index; detail = detail }

-- ---- a submission

-- the bytes of a log or a plan, under the fault's code
abbrev pub spelling_row : (code : ℕ) → spelling.SpellingFault → FaultRow
spelling_row code spelling.BadHeader = numbers code 1 0 0
spelling_row code (spelling.BadEntry index) = numbers code 2 index 0
spelling_row code spelling.Trailing = numbers code 3 0 0
spelling_row code (spelling.BadRow part index) = numbers code 4 index part

-- an entry; of a missing lease the node is told
abbrev pub reason_row : (index : ℕ) → checks.Reason → FaultRow
reason_row index checks.NoSuchNode = numbers 5 1 index 0
reason_row index checks.NotDirectory = numbers 5 2 index 0
reason_row index checks.IsDirectory = numbers 5 3 index 0
reason_row index checks.NoSuchName = numbers 5 4 index 0
reason_row index checks.NameTaken = numbers 5 5 index 0
reason_row index checks.NumberTaken = numbers 5 6 index 0
reason_row index checks.NumberNotGranted = numbers 5 7 index 0
reason_row index checks.NotEmpty = numbers 5 8 index 0
reason_row index checks.BelowItself = numbers 5 9 index 0
reason_row index checks.TooManyLinks = numbers 5 10 index 0
reason_row index checks.TooBig = numbers 5 11 index 0
reason_row index checks.NoSearch = numbers 5 12 index 0
reason_row index checks.NoWrite = numbers 5 13 index 0
reason_row index checks.NotOwner = numbers 5 14 index 0
reason_row index (checks.NoLease number) = numbers 5 15 index number
reason_row index checks.Sticky = numbers 5 16 index 0
reason_row index checks.NotInGroup = numbers 5 17 index 0

-- a row of the plan
abbrev pub plan_row : rows.RowFault → FaultRow
plan_row (rows.Names index) = numbers 6 1 index 0
plan_row (rows.Nodes index) = numbers 6 2 index 0
plan_row (rows.Pieces index) = numbers 6 3 index 0

abbrev pub fault_row : judging.Fault → FaultRow
fault_row judging.ClientUnknown = numbers 1 0 0 0
fault_row (judging.BadLog fault) = spelling_row 2 fault
fault_row judging.ClientWrong = numbers 3 0 0 0
fault_row (judging.BadPlan fault) = spelling_row 4 fault
fault_row (judging.AtEntry fault) = reason_row fault.entry fault.reason
fault_row (judging.AtRow fault) = plan_row fault

-- a submission that is handed in by a call is judged once
abbrev pub reply_told : judging.Reply → Told
reply_told (judging.Accepted need) = Yes false need
reply_told (judging.NoRoom need free) = NoRoom false need free
reply_told (judging.Refused fault) = No false (fault_row fault)

-- ---- a call that is no submission

abbrev pub lease_row : leases.LeaseFault → FaultRow
lease_row leases.UnknownClient = numbers 1 0 0 0
lease_row leases.BadPath = numbers 2 0 0 0
lease_row (leases.NoSuchName component) = numbers 3 0 component 0
lease_row (leases.NotDirectory component) = numbers 4 0 component 0
lease_row (leases.NoSearch component) = numbers 5 0 component 0
lease_row leases.Past = numbers 6 0 0 0
lease_row (leases.LeaseHeld client) = numbers 7 0 0 client
lease_row leases.NoLeaseHeld = numbers 8 0 0 0
lease_row leases.Backwards = numbers 9 0 0 0
lease_row leases.NoSuchNode = numbers 10 0 0 0
lease_row leases.NotAllowed = numbers 11 0 0 0

abbrev pub move_row : moves.MoveFault → FaultRow
move_row (moves.NotMapped index) = numbers 1 0 index 0
move_row (moves.OutOfRange index) = numbers 2 0 index 0
move_row (moves.NotFree index) = numbers 3 0 index 0
move_row (moves.Overlap index) = numbers 4 0 index 0
move_row moves.TooManyMoves = numbers 5 0 0 0

abbrev pub refusal_told : CallFault → Told
refusal_told (machine.LeaseRefused fault) = LeaseRefused (lease_row fault)
refusal_told (machine.MovesRefused fault) = MovesRefused (move_row fault)

-- what was done, given the node's number, the moment, or how many blocks moved; of no submission
abbrev pub done_told : machine.Call → ℕ → Told
done_told (machine.Submit submission reading) = Moved
done_told (machine.Lease client path kind end) = Leased
done_told (machine.Drop client number) = Dropped
done_told (machine.Tick moment) = Ticked
done_told (machine.Migrate moves) = Moved
done_told (machine.LeaseAt client number kind end) = Leased

-- ---- what the call was answered

abbrev pub told_of : machine.Call → CallAnswer → Told
told_of call (Replied reply) = reply_told reply
told_of call (Done number) = done_told call number
told_of call (NotDone fault) = refusal_told fault

-- ---- the same of the code's answers

abbrev pub done_shown : CodeDone → Told
done_shown (dones.Leased number) = Leased number
done_shown (dones.Dropped number) = Dropped number
done_shown (dones.Ticked moment) = Ticked moment
done_shown (dones.Moved count) = Moved count

abbrev pub IsActTold : Result CodeDone ActFault → Told → Type 0
IsActTold (Ok done) told = told ≡ done_shown done
IsActTold (Err fault) told = IfSome (call_fault_of fault) (λ refusal. told ≡ refusal_told refusal)

-- this is what the code's answer says, where no submission was judged again
abbrev pub IsTold : Called → Told → Type 0
IsTold (Submitted reply) told = is_rejudged reply ≡ false → IfSome (reply_of reply) (λ is. told ≡ reply_told is)
IsTold (Acted reply) told = IsActTold reply.answer told

-- the row of the docket that the call has
abbrev pub docket_row : Called → ℕ
docket_row (Submitted reply) = position_of reply
docket_row (Acted reply) = reply.position

-- this is the code's answer with its row of the docket
abbrev pub IsAnswer : Called → AnswerRow → Type 0
IsAnswer called answer = (answer.position ≡ docket_row called) × IsTold called answer.told
