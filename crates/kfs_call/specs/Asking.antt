-- Whose call the body of a frame is.
use Rattle.std.specs.Prelude.{◌≡◌, ◌≢◌, ℕ, List, Result, Ok, Err}
use Rattle.std.specs.declared.vec.Vec.{Vec}
use Rattle.kfs_call.specs.Call.{Call, Submit, Lease, Drop, Tick, Migrate, LeaseAt, CallAnswer}
use Rattle.kfs_call.specs.Layout as layouts
use Rattle.kfs_call.specs.declared.asking.Decided.{Decided}
use Rattle.kfs_call.specs.declared.asking.Decision.{Decision}
use Rattle.kfs_call.specs.declared.asking.Decision.TheVariants.{Make, NotKept, NoCall, NotYours}
use Rattle.kfs_call.specs.declared.fault.FieldFault.{FieldFault}
use Rattle.kfs_call.specs.declared.fault.FieldFault.TheVariants as faults
use Rattle.kfs_call.specs.declared.frame.BodyFault.{BodyFault}
use Rattle.kfs_call.specs.declared.frame.Incoming.{Incoming}

-- the front, in the place of a client
abbrev pub front : ℕ
front = 4294967295

-- whose call it is: a client's, or the front's
abbrev pub owner : Call → ℕ
owner (Submit client log plan) = client
owner (Lease client kind end path) = client
owner (Drop client number) = client
owner (Tick moment) = front
owner (Migrate moves) = front
owner (LeaseAt client kind end number) = client

-- the bytes are no call, for a reason that is right; or memory was refused
abbrev pub IsNoCall : List ℕ → FieldFault → Type 0
IsNoCall bytes (faults.BadField k) = CallAnswer bytes (Err (layouts.BadField k))
IsNoCall bytes faults.Trailing = CallAnswer bytes (Err layouts.Trailing)
IsNoCall bytes faults.OutOfMemory = Unit {0}

-- the bytes are a call of this sender's own, to be made; or they aren't
abbrev pub IsDecided : (from : ℕ) → List ℕ → Decision → Type 0
IsDecided from bytes (Make body) = (body.now ≡ bytes) × (call : Call) × CallAnswer bytes (Ok call) × (owner call ≡ from)
IsDecided from bytes (NotKept fault) = ⊥
IsDecided from bytes (NoCall fault) = IsNoCall bytes fault
IsDecided from bytes NotYours = (call : Call) × CallAnswer bytes (Ok call) × (owner call ≢ from)

module _ {A : Type 0} where
  -- so it is of a body; one that isn't kept is told as that
  abbrev pub IsDecidedOfBody : (from : ℕ) → Result (Vec ℕ A) BodyFault → Decision → Type 0
  IsDecidedOfBody from (Ok bytes) what = IsDecided from bytes.items what
  IsDecidedOfBody from (Err fault) what = what ≡ NotKept fault

  -- so it is of a frame, under its number
  abbrev pub IsDecidedFor : Incoming A → Decided → Type 0
  IsDecidedFor incoming decided = (decided.number ≡ incoming.number) × IsDecidedOfBody incoming.from incoming.body decided.what
