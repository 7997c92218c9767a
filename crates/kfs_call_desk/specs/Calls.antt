-- What a call by bytes comes to.
use Rattle.std.specs.Prelude.{◌≡◌, ℕ, false, List, length, Result, Ok, Err, IfOk, IfErr, OnErr}
use Rattle.kfs_model.specs.Judgement.{Submission}
use Rattle.kfs_model.specs.Machine as machine
use Rattle.kfs_plan.specs.Judging.{submission_with}
use Rattle.kfs_desk.specs.Machine.{Desk, IsActed, IsAnswered}
use Rattle.kfs_desk.specs.History.Legal.{IsLegalDocket}
use Rattle.kfs_desk.specs.declared.history.answers.Done.{Done}
use Rattle.kfs_desk.specs.declared.history.answers.Done.TheVariants as dones
use Rattle.kfs_desk.specs.declared.history.answers.Reply.{Reply}
use Rattle.kfs_plan.specs.declared.submission.Why.{Why}
use Rattle.kfs_plan.specs.declared.submission.Why.TheVariants as whys
use Rattle.kfs_desk.specs.declared.history.answers.ActReply.{ActReply}
use Rattle.kfs_desk.specs.declared.history.answers.Unanswered.{Unanswered}
use Rattle.kfs_desk.specs.declared.history.answers.Unanswered.TheVariants as unanswered
use Rattle.kfs_call.specs.Layout.{BadField, Trailing}
use Rattle.kfs_call.specs.Call.{Call, Submit, Lease, Drop, Tick, Migrate, LeaseAt, IsCall, call_bytes, CallAnswer}
use Rattle.kfs_call.specs.declared.fault.FieldFault.TheVariants as fields
use Rattle.kfs_call_desk.specs.declared.made.Called.{Called}
use Rattle.kfs_call_desk.specs.declared.made.Called.TheVariants.{Submitted, Acted}
use Rattle.kfs_call_desk.specs.declared.made.CallFault.{CallFault}
use Rattle.kfs_call_desk.specs.declared.made.CallFault.TheVariants as faults

-- the answer is that of the desk's own call
abbrev pub IsActing : (old : Desk) → machine.Call → (words : ℕ → Done) → Called → (new : Desk) → Type 0
IsActing old call words (Acted reply) new = IsActed old call words reply new
IsActing old call words (Submitted reply) new = ⊥

abbrev pub IsSubmitting : (old : Desk) → Submission → Called → (new : Desk) → Type 0
IsSubmitting old submission (Submitted reply) new = IsAnswered old submission false reply new
IsSubmitting old submission (Acted reply) new = ⊥

-- the call is answered as the desk's own call for it says
abbrev pub IsMade : Call → (old : Desk) → Called → (new : Desk) → Type 0
IsMade (Submit client log plan) old called new = IsSubmitting old (submission_with client log plan) called new
IsMade (Lease client kind end path) old called new = IsActing old (machine.Lease client path kind end) dones.Leased called new
IsMade (Drop client number) old called new = IsActing old (machine.Drop client number) dones.Dropped called new
IsMade (Tick moment) old called new = IsActing old (machine.Tick moment) dones.Ticked called new
IsMade (Migrate moves) old called new = IsActing old (machine.Migrate moves) dones.Moved called new
IsMade (LeaseAt client kind end number) old called new = IsActing old (machine.LeaseAt client number kind end) dones.Leased called new

-- the bytes are a call, and it is answered so
pub record IsCalled (bytes : List ℕ) (old : Desk) (called : Called) (new : Desk) : Type 0 where
  pub call : Call
  pub fits : IsCall call
  pub spelled : bytes ≡ call_bytes call
  pub made : IsMade call old called new

-- the reason why a call is unmade is right: memory ran out, or the docket is full
abbrev pub IsUnmade : Desk → CallFault → Type 0
IsUnmade desk (faults.BadCall fault) = ⊥
IsUnmade desk faults.OutOfMemory = Unit {0}
IsUnmade desk faults.DocketFull = length desk.docket ≡ desk.limit

-- the call is answered so; or it is unmade for a reason that is right, and the desk is as it was; the
-- docket is legal either way
pub record IsOutcome (IsAnswer : Called → Type 0) (old : Desk) (result : Result Called CallFault) (new : Desk) : Type 0 where
  pub made : IfOk result IsAnswer
  pub unmade : IfErr result (IsUnmade old)
  pub err : OnErr result (new ≡ old)
  pub legal : IsLegalDocket new.opening new.docket new.state

-- the reason why there is no answer is right: the bytes are no call, as is told; or memory ran out, or the
-- docket is full
abbrev pub IsRefusal : List ℕ → Desk → CallFault → Type 0
IsRefusal bytes desk (faults.BadCall (fields.BadField k)) = CallAnswer bytes (Err (BadField k))
IsRefusal bytes desk (faults.BadCall fields.Trailing) = CallAnswer bytes (Err Trailing)
IsRefusal bytes desk (faults.BadCall fields.OutOfMemory) = ⊥
IsRefusal bytes desk faults.OutOfMemory = Unit {0}
IsRefusal bytes desk faults.DocketFull = length desk.docket ≡ desk.limit

-- the same answer, or the same reason why there is none
abbrev pub IsSameAct : Result ActReply Unanswered → Result Called CallFault → Type 0
IsSameAct (Ok reply) result = result ≡ Ok (Acted reply)
IsSameAct (Err unanswered.OutOfMemory) result = result ≡ Err faults.OutOfMemory
IsSameAct (Err unanswered.DocketFull) result = result ≡ Err faults.DocketFull

abbrev pub IsSameReply : Result Reply Why → Result Called CallFault → Type 0
IsSameReply (Ok reply) result = result ≡ Ok (Submitted reply)
IsSameReply (Err whys.OutOfMemory) result = result ≡ Err faults.OutOfMemory
IsSameReply (Err whys.DocketFull) result = result ≡ Err faults.DocketFull
