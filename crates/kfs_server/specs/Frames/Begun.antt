-- The code's frames, and what it holds of one that isn't whole yet.
use Rattle.std.specs.Prelude.{◌≡◌, ℕ, ◌^◌, ◌<◌, ◌≤◌, List, [], ◌∷◌, ◌++◌, length, Option, Some, None, Result, Ok, Err}
use Rattle.std.specs.List.{AllByRecursion, AllZip}
use Rattle.std.specs.declared.vec.Vec.{Vec}
use Rattle.kfs_server.specs.Frames.Frame.{Frame, IsFrame, frame_bytes, head_bytes, stream_of}
use Rattle.kfs_call.specs.declared.frame.BodyFault.{BodyFault}
use Rattle.kfs_call.specs.declared.frame.BodyFault.TheVariants.{TooLong, OutOfMemory}
use Rattle.kfs_call.specs.declared.frame.Incoming.{Incoming}
use Rattle.kfs_server.specs.declared.frames.begun.Begun.{Begun}
use Rattle.kfs_server.specs.declared.frames.begun.Begun.TheVariants.{InHead, InBody}

-- the most bytes of a body that is kept
abbrev pub body_limit : ℕ
body_limit = 16777216

-- the length and the numbers of a head fit their widths
pub record IsHead (len number from : ℕ) : Type 0 where
  pub len_fits : len < 2 ^ 32
  pub number_fits : number < 2 ^ 32
  pub from_fits : from < 2 ^ 32

-- the bytes begin with a head of this number
pub record HasHead (bytes : List ℕ) (number : ℕ) : Type 0 where
  pub len : ℕ
  pub from : ℕ
  pub part : List ℕ
  pub fits : IsHead len number from
  pub parts : bytes ≡ head_bytes len number from ++ part

module _ {A : Type 0} where
  -- these are the bytes, of a body of this length; or they aren't kept, for a reason that is right
  abbrev pub IsBody : (len : ℕ) → Result (Vec ℕ A) BodyFault → List ℕ → Type 0
  IsBody len (Ok bytes) part = (bytes.items ≡ part) × (len ≤ body_limit)
  IsBody len (Err TooLong) part = body_limit < len
  IsBody len (Err OutOfMemory) part = len ≤ body_limit

  -- this is the frame
  pub record IsFrameOf (incoming : Incoming A) (f : Frame) : Type 0 where
    pub number : incoming.number ≡ f.number
    pub from : incoming.from ≡ f.from
    pub body : IsBody (length f.body) incoming.body f.body

  -- the frame isn't whole: its head isn't, or so much of its body has come, and it has more
  abbrev pub IsBegun : Begun A → Type 0
  IsBegun (InHead bytes) = length bytes.items < 12
  IsBegun (InBody head passed body) = IsHead head.len head.number head.from × (passed < head.len)

  -- a head has come, and so many bytes of its body
  pub record IsInBody (len number from : ℕ) (passed : ℕ) (body : Result (Vec ℕ A) BodyFault) (came : List ℕ) : Type 0 where
    pub part : List ℕ
    pub parts : came ≡ head_bytes len number from ++ part
    pub passes : length part ≡ passed
    pub kept : IsBody len body part

  -- these bytes have come of the frame
  abbrev pub IsPending : Begun A → (came : List ℕ) → Type 0
  IsPending (InHead bytes) came = came ≡ bytes.items
  IsPending (InBody head passed body) came = IsInBody head.len head.number head.from passed body came

  -- behind what had come, these bytes are looked at up to the rest: no frame is whole with them, or this one is
  abbrev pub IsNextFrame : (bytes rest : List ℕ) → Option (Incoming A) → Begun A → Type 0
  IsNextFrame bytes rest None begun = (came : List ℕ) × IsPending begun came × (bytes ≡ came ++ rest)
  IsNextFrame bytes rest (Some incoming) begun = (f : Frame) × IsFrame f × IsFrameOf incoming f × IsPending begun [] × (bytes ≡ frame_bytes f ++ rest)

  -- the bytes up to the rest are these frames, and then those that have come of the next one
  pub record AreReadTo (rest bytes : List ℕ) (incoming : List (Incoming A)) (begun : Begun A) : Type 0 where
    pub frames : List Frame
    pub left : List ℕ
    pub are : AllZip IsFrameOf incoming frames
    pub each : AllByRecursion IsFrame frames
    pub pending : IsPending begun left
    pub whole : bytes ≡ stream_of frames (left ++ rest)

  -- all of the bytes are
  pub record AreRead (bytes : List ℕ) (incoming : List (Incoming A)) (begun : Begun A) : Type 0 where
    pub frames : List Frame
    pub left : List ℕ
    pub are : AllZip IsFrameOf incoming frames
    pub each : AllByRecursion IsFrame frames
    pub pending : IsPending begun left
    pub whole : bytes ≡ stream_of frames left

  -- the frame, where there is one
  abbrev pub whole_ones : Option (Incoming A) → List (Incoming A)
  whole_ones None = []
  whole_ones (Some incoming) = incoming ∷ []
