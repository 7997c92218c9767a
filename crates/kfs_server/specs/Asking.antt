-- What a frame asks for, and whether it is its sender's own.
use Rattle.std.specs.Prelude.{◌≡◌, ◌≢◌, ◌<◌, ◌≤◌, length, Err, IfOk}
use Rattle.kfs_call.specs.Asking.{owner}
use Rattle.kfs_call.specs.Call.{Call, IsCall, call_bytes, CallAnswer}
use Rattle.kfs_call.specs.Layout as layouts
use Rattle.kfs_call.specs.declared.frame.Incoming.{Incoming}
use Rattle.kfs_server.specs.Frames.Frame.{Frame}
use Rattle.kfs_server.specs.Frames.Begun.{body_limit}
use Rattle.kfs_server.specs.LookUps.LookUp.{LookUp, AsksLookUp, IsAnothers, IsNoLookUp, IsOfNoLog}
use Rattle.kfs_server.specs.Replies.Reply.{Refusal, TooLong, CutShort, BadField, Trailing, NotYours, OutOfMemory, DocketFull}

-- the frame asks for this call, and has a body that is kept
pub record Asks (f : Frame) (call : Call) : Type 0 where
  pub short : length f.body ≤ body_limit
  pub fits : IsCall call
  pub spelled : f.body ≡ call_bytes call

-- whatever the desk, the frame is refused, for a reason that is right
abbrev pub IsBad : Frame → Refusal → Type 0
IsBad f TooLong = body_limit < length f.body
IsBad f CutShort = ⊥
IsBad f (BadField k) = CallAnswer f.body (Err (layouts.BadField k)) × IsNoLookUp f.body
IsBad f Trailing = CallAnswer f.body (Err layouts.Trailing)
IsBad f NotYours = (call : Call) × Asks f call × (owner call ≢ f.from)
IsBad f OutOfMemory = Unit {0}
IsBad f DocketFull = ⊥

-- the frame asks for a look-up that is another's than its sender's
pub record AsksForAnother (f : Frame) : Type 0 where
  pub look_up : LookUp
  pub asks : AsksLookUp f look_up
  pub another : IsAnothers look_up f.from

-- the frame asks for a look-up of a log, and its bytes are none
pub record AsksOfNoLog (f : Frame) : Type 0 where
  pub look_up : LookUp
  pub asks : AsksLookUp f look_up
  pub none : IsOfNoLog look_up

-- the frame's body, if it is kept, is no look-up's
abbrev pub HasNoLookUp : {A : Type 0} → Incoming A → Type 0
HasNoLookUp incoming = IfOk incoming.body (λ bytes. IsNoLookUp bytes.items)
