-- Frames, and a stream of them. Numbers are big-endian.
use Rattle.std.specs.Prelude.{◌≡◌, ℕ, ◌^◌, ◌<◌, List, ◌++◌, length}
use Rattle.std.specs.List.{flat_map, AllByRecursion}
use Rattle.kfs_model.specs.Spelling.{number32}

-- a frame: the number that its answer has, whom it comes from, and what it asks for
pub record Frame : Type 0 where
  pub number : ℕ
  pub from : ℕ
  pub body : List ℕ

-- what stands before a body: its length, the number, and whom the frame comes from
abbrev pub head_bytes : (len number from : ℕ) → List ℕ
head_bytes len number from = number32 len ++ number32 number ++ number32 from

-- the encoding of a frame
abbrev pub frame_bytes : Frame → List ℕ
frame_bytes f = head_bytes (length f.body) f.number f.from ++ f.body

-- the length and the numbers fit their widths
pub record IsFrame (f : Frame) : Type 0 where
  pub len : length f.body < 2 ^ 32
  pub number : f.number < 2 ^ 32
  pub from : f.from < 2 ^ 32

-- no whole frame stands at the front
abbrev pub IsPartial : List ℕ → Type 0
IsPartial bytes = (f : Frame) (more : List ℕ) → IsFrame f → bytes ≡ frame_bytes f ++ more → ⊥

-- a stream: frames one after another, and then these bytes
abbrev pub stream_of : List Frame → (rest : List ℕ) → List ℕ
stream_of frames rest = flat_map frame_bytes frames ++ rest

-- the stream is these frames, and then less than a whole one
pub record Splits (stream : List ℕ) (frames : List Frame) (rest : List ℕ) : Type 0 where
  pub whole : stream ≡ stream_of frames rest
  pub each : AllByRecursion IsFrame frames
  pub partial : IsPartial rest
