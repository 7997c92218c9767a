-- Answers to calls and headers as the numbers that C is told.
use Rattle.std.specs.Prelude.{ℕ, Bool, true, false, Result, Ok, Err}
use Rattle.kfs_types.specs.declared.entry.Header.{Header}
use Rattle.kfs_types.specs.declared.entry.Kind.{Kind}
use Rattle.kfs_types.specs.declared.entry.Kind.TheVariants as kinds
use Rattle.kfs_lease.specs.declared.leases.LeaseFault.{LeaseFault}
use Rattle.kfs_lease.specs.declared.leases.LeaseFault.TheVariants as leases
use Rattle.kfs_types.specs.declared.moves.moves.MoveFault.{MoveFault}
use Rattle.kfs_types.specs.declared.moves.moves.MoveFault.TheVariants as moves
use Rattle.kfs_desk.specs.declared.history.answers.ActFault.{ActFault}
use Rattle.kfs_desk.specs.declared.history.answers.ActFault.TheVariants as acts
use Rattle.kfs_desk.specs.declared.history.answers.ActReply.{ActReply}
use Rattle.kfs_desk.specs.declared.history.answers.Done.{Done}
use Rattle.kfs_desk.specs.declared.history.answers.Done.TheVariants as dones
use Rattle.kfs_c.specs.declared.submission.numbers.FaultNumbers.{FaultNumbers}
use Rattle.kfs_c.specs.Submission.Told.{no_fault, numbers}
use Rattle.kfs_c.specs.declared.numbers.ActNumbers.{ActNumbers}
use Rattle.kfs_c.specs.declared.numbers.NodeNumbers.{NodeNumbers}

-- ---- a call that is no submission

abbrev pub lease_fault_told : LeaseFault → FaultNumbers
lease_fault_told leases.UnknownClient = numbers 1 0 0 0
lease_fault_told leases.BadPath = numbers 2 0 0 0
lease_fault_told (leases.NoSuchName index) = numbers 3 0 index 0
lease_fault_told (leases.NotDirectory index) = numbers 4 0 index 0
lease_fault_told (leases.NoSearch index) = numbers 5 0 index 0
lease_fault_told leases.Past = numbers 6 0 0 0
lease_fault_told (leases.LeaseHeld client) = numbers 7 0 0 client
lease_fault_told leases.NoLeaseHeld = numbers 8 0 0 0
lease_fault_told leases.Backwards = numbers 9 0 0 0
lease_fault_told leases.NoSuchNode = numbers 10 0 0 0
lease_fault_told leases.NotAllowed = numbers 11 0 0 0
lease_fault_told leases.OutOfMemory = no_fault

abbrev pub move_fault_told : MoveFault → FaultNumbers
move_fault_told (moves.NotMapped index) = numbers 1 0 index 0
move_fault_told (moves.OutOfRange index) = numbers 2 0 index 0
move_fault_told (moves.NotFree index) = numbers 3 0 index 0
move_fault_told (moves.Overlap index) = numbers 4 0 index 0
move_fault_told moves.TooManyMoves = numbers 5 0 0 0
move_fault_told moves.OutOfMemory = no_fault

abbrev pub act_fault_told : ActFault → FaultNumbers
act_fault_told (acts.Lease fault) = lease_fault_told fault
act_fault_told (acts.Move fault) = move_fault_told fault

-- the node's number, the moment, or how many blocks moved
abbrev pub done_told : Done → ℕ
done_told (dones.Leased number) = number
done_told (dones.Dropped number) = number
done_told (dones.Ticked moment) = moment
done_told (dones.Moved count) = count

abbrev pub answer_told : (position : ℕ) → Result Done ActFault → ActNumbers
answer_told position (Ok what) = record { position = position; done = true; number = done_told what; fault = no_fault }
answer_told position (Err fault) = record { position = position; done = false; number = 0; fault = act_fault_told fault }

abbrev pub act_told : ActReply → ActNumbers
act_told reply = answer_told reply.position reply.answer

-- ---- a node

abbrev pub is_directory_kind : Kind → Bool
is_directory_kind kinds.File = false
is_directory_kind kinds.Directory = true

abbrev pub header_told : Header → NodeNumbers
header_told h = record { directory = is_directory_kind h.kind; mode = h.mode; links = h.links; uid = h.uid; gid = h.gid; size = h.size }
