-- Replies, and the frames that carry them. Numbers are big-endian.
use Rattle.std.specs.Prelude.{ℕ, List, [], ◌∷◌, ◌++◌, length}
use Rattle.kfs_model.specs.Spelling.{byte, number32}
use Rattle.kfs_call.specs.AnswerRow.{AnswerRow, answer_bytes}
use Rattle.kfs_server.specs.Frames.Frame.{Frame}
use Rattle.kfs_server.specs.LookUps.Found as finding
use Rattle.kfs_server.specs.LookUps.Found.{found_bytes}

-- why a frame is refused
pub data Refusal : Type 0 where
  -- its body has more bytes than are kept
  TooLong : Refusal
  -- the input ended within it
  CutShort : Refusal
  -- the body is no call and no look-up: so many of its fields were read, and the next one isn't there; or bytes remain
  BadField : (k : ℕ) → Refusal
  Trailing : Refusal
  -- the call is another's than the frame, or the look-up is the front's
  NotYours : Refusal
  -- memory was refused
  OutOfMemory : Refusal
  -- the docket has as many rows as its limit allows
  DocketFull : Refusal

-- what a frame is replied
pub data Reply : Type 0 where
  -- a call was made, and has this answer
  Answered : (answer : AnswerRow) → Reply
  -- nothing was done
  Refused : (refusal : Refusal) → Reply
  -- a look-up found this
  Found : (found : finding.Found) → Reply

-- the number of a refusal
abbrev pub refusal_code : Refusal → ℕ
refusal_code TooLong = 1
refusal_code CutShort = 2
refusal_code (BadField k) = 3
refusal_code Trailing = 4
refusal_code NotYours = 5
refusal_code OutOfMemory = 6
refusal_code DocketFull = 7

-- how many fields were read, of a body that lacks one
abbrev pub refusal_index : Refusal → ℕ
refusal_index TooLong = 0
refusal_index CutShort = 0
refusal_index (BadField k) = k
refusal_index Trailing = 0
refusal_index NotYours = 0
refusal_index OutOfMemory = 0
refusal_index DocketFull = 0

-- the encoding of a reply: a tag, and then the answer, the refusal's number and index, or what was found
abbrev pub reply_body : Reply → List ℕ
reply_body (Answered answer) = byte 1 ++ answer_bytes answer
reply_body (Refused refusal) = byte 2 ++ (byte (refusal_code refusal) ++ number32 (refusal_index refusal))
reply_body (Found found) = byte 3 ++ found_bytes found

-- a reply under the frame's number
abbrev pub reply_bytes : (number : ℕ) → Reply → List ℕ
reply_bytes number reply = number32 (length (reply_body reply)) ++ number32 number ++ reply_body reply

-- the replies to frames, one after another
abbrev pub text_of : List Frame → List Reply → List ℕ
text_of [] replies = []
text_of (f ∷ frames) [] = []
text_of (f ∷ frames) (reply ∷ replies) = reply_bytes f.number reply ++ text_of frames replies
