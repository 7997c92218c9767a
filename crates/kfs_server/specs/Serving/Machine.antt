-- The serving machine: what a desk replies to frames, one after another.
use Rattle.std.specs.Prelude.{◌≡◌, ◌⊎◌, List, [], ◌∷◌, length}
use Rattle.kfs_desk.specs.Machine.{Desk}
use Rattle.kfs_call.specs.AnswerRow.{AnswerRow}
use Rattle.kfs_call.specs.Asking.{owner}
use Rattle.kfs_call.specs.Call.{Call}
use Rattle.kfs_call_desk.specs.Calls.{IsMade}
use Rattle.kfs_call_desk.specs.Told.{IsAnswer}
use Rattle.kfs_call_desk.specs.declared.made.Called.{Called}
use Rattle.kfs_server.specs.Frames.Frame.{Frame}
use Rattle.kfs_server.specs.LookUps.LookUp.{LookUp, AsksLookUp, MayAsk}
use Rattle.kfs_server.specs.LookUps.Found as finding
use Rattle.kfs_server.specs.LookUps.Found.{IsFound}
use Rattle.kfs_server.specs.Asking.{Asks, AsksForAnother, AsksOfNoLog, IsBad}
use Rattle.kfs_server.specs.Replies.Reply.{Refusal, BadField, DocketFull, NotYours, Reply, Answered, Refused, Found}

-- the frame's call is its sender's own; it is made on the desk, and this is its answer
pub record IsMadeFor (desk : Desk) (f : Frame) (answer : AnswerRow) (next : Desk) : Type 0 where
  pub call : Call
  pub asks : Asks f call
  pub yours : owner call ≡ f.from
  pub called : Called
  pub made : IsMade call desk called next
  pub told : IsAnswer called answer

-- the frame's look-up is its sender's to ask, and finds this at the desk
pub record IsFoundFor (desk : Desk) (f : Frame) (found : finding.Found) : Type 0 where
  pub look_up : LookUp
  pub asks : AsksLookUp f look_up
  pub yours : MayAsk look_up f.from
  pub is : IsFound desk f.from look_up found

-- the frame is refused for a reason that is right: it is bad, the docket is full, or its look-up isn't its sender's or is
-- of no log
abbrev pub IsRefusedFor : Desk → Frame → Refusal → Type 0
IsRefusedFor desk f refusal =
    IsBad f refusal ⊎ ((refusal ≡ DocketFull) × (length desk.docket ≡ desk.limit)) ⊎ ((refusal ≡ NotYours) × AsksForAnother f) ⊎ ((refusal ≡ BadField 0) × AsksOfNoLog f)

-- the desk may reply this to the frame, and goes on to the next one; a frame that is refused changes nothing, and nor
-- does a look-up
abbrev pub Replies : Desk → Frame → Reply → (next : Desk) → Type 0
Replies desk f (Answered answer) next = IsMadeFor desk f answer next
Replies desk f (Refused refusal) next = IsRefusedFor desk f refusal × (next ≡ desk)
Replies desk f (Found found) next = IsFoundFor desk f found × (next ≡ desk)

-- it may reply this to these frames, one after another
abbrev pub Serves : Desk → List Frame → List Reply → (last : Desk) → Type 0
Serves desk [] [] last = last ≡ desk
Serves desk [] (reply ∷ replies) last = ⊥
Serves desk (f ∷ frames) [] last = ⊥
Serves desk (f ∷ frames) (reply ∷ replies) last = (next : Desk) × Replies desk f reply next × Serves next frames replies last
