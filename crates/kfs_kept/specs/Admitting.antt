-- A desk that goes on with other clients: those that it had, and new ones.
use Rattle.std.specs.Prelude.{◌≡◌, ◌⊎◌, ℕ, List, All, Contains, None, Ok, Some, Result}
use Rattle.kfs_model.specs.Access.{Client}
use Rattle.kfs_model.specs.Judgement.{State}
use Rattle.kfs_desk.specs.Opening.{begin_fault}
use Rattle.kfs_journal.specs.Disk.{Files}
use Rattle.kfs_call_desk.specs.Restore.Restored.{RestoreFault, begin_refusal, unless}
use Rattle.kfs_call_desk.specs.Restore.Saved.{HasTooMany}
use Rattle.kfs_kept.specs.Standing.{StandFor}
use Rattle.kfs_kept.specs.declared.fault.AdmitFault.{AdmitFault}
use Rattle.kfs_kept.specs.declared.fault.AdmitFault.TheVariants.{BadClients, LeftOut, Unsaved}
use Rattle.kfs_kept.specs.declared.fault.SaveFault.{SaveFault}
use Rattle.kfs_kept.specs.declared.fault.SaveFault.TheVariants as saving

-- the state with these clients in place of its own
abbrev pub with_clients : State → List Client → State
with_clients s clients = record s { clients = clients }

-- each client that was there is in the list as it was
abbrev pub Keeps : (old new : List Client) → Type 0
Keeps old new = All (Contains new) old

-- a list that may take the place of another: it keeps the clients that were there, and all of it can be beside each other
pub record Admits (old new : List Client) : Type 0 where
  pub keeps : Keeps old new
  pub beside : begin_fault new ≡ None

-- a client of this number was there, and isn't in the list as it was
pub record IsLeftOut (old new : List Client) (number : ℕ) : Type 0 where
  pub client : Client
  pub was_there : Contains old client
  pub numbered : client.number ≡ number
  pub left_out : Contains new client → ⊥

-- the files stand for the state with the clients that were there; or, where the list admits, for that with its own
abbrev pub StandForAdmitted : State → List Client → Files → Type 0
StandForAdmitted s clients files = StandFor files s ⊎ (Admits s.clients clients × StandFor files (with_clients s clients))

-- what the state's bytes come to: that state, unless its clients can't be beside each other
abbrev pub begun_with : State → Result State RestoreFault
begun_with s = unless (begin_refusal s.clients) (Ok s)

-- the state isn't kept for a reason that is right of it
abbrev pub IsWhyUnsaved : State → SaveFault → Type 0
IsWhyUnsaved s saving.Closed = Unit {0}
IsWhyUnsaved s saving.TooMany = HasTooMany s
IsWhyUnsaved s saving.Full = Unit {0}
IsWhyUnsaved s saving.OutOfMemory = Unit {0}
IsWhyUnsaved s saving.Failed = Unit {0}

-- the list isn't taken for a reason that is right of it
abbrev pub IsWhyNotAdmitted : State → List Client → AdmitFault → Type 0
IsWhyNotAdmitted s clients (LeftOut number) = IsLeftOut s.clients clients number
IsWhyNotAdmitted s clients (BadClients fault) = begin_fault clients ≡ Some fault
IsWhyNotAdmitted s clients (Unsaved fault) = IsWhyUnsaved (with_clients s clients) fault

-- a reason of the list or of its state, or memory was refused: before the files are written there is no other
abbrev pub IsBefore : AdmitFault → Type 0
IsBefore (LeftOut number) = Unit {0}
IsBefore (BadClients fault) = Unit {0}
IsBefore (Unsaved saving.Closed) = ⊥
IsBefore (Unsaved saving.TooMany) = Unit {0}
IsBefore (Unsaved saving.Full) = ⊥
IsBefore (Unsaved saving.OutOfMemory) = Unit {0}
IsBefore (Unsaved saving.Failed) = ⊥

-- the clients can't be beside each other, or memory was refused
abbrev pub IsWhyNotBegun : List Client → AdmitFault → Type 0
IsWhyNotBegun clients (LeftOut number) = ⊥
IsWhyNotBegun clients (BadClients fault) = begin_fault clients ≡ Some fault
IsWhyNotBegun clients (Unsaved fault) = fault ≡ saving.OutOfMemory
