-- Answers of a desk as bytes. Numbers are big-endian. Each answer has one encoding.
use Rattle.std.specs.Prelude.{ℕ, ◌^◌, ◌<◌, Bool, true, false, List, [], ◌∷◌, ◌++◌, Result}
use Rattle.kfs_model.specs.Spelling.{byte, number32, number64}
use Rattle.kfs_call.specs.Layout.{LayoutFault, Answer, joined}

-- why something was refused, in numbers
pub record FaultRow : Type 0 where
  pub code : ℕ
  pub reason : ℕ
  pub index : ℕ
  pub detail : ℕ

-- what a call was answered
pub data Told : Type 0 where
  Yes : (rejudged : Bool) (need : ℕ) → Told
  No : (rejudged : Bool) (fault : FaultRow) → Told
  NoRoom : (rejudged : Bool) (need free : ℕ) → Told
  Leased Dropped Moved Ticked : (number : ℕ) → Told
  LeaseRefused MovesRefused : (fault : FaultRow) → Told

-- an answer: the row of the docket, and what it says
pub record AnswerRow : Type 0 where
  pub position : ℕ
  pub told : Told

-- ---- fields

abbrev pub flag_bytes : Bool → List ℕ
flag_bytes false = byte 0
flag_bytes true = byte 1

abbrev pub fault_bytes : FaultRow → List ℕ
fault_bytes f = byte f.code ++ byte f.reason ++ number64 f.index ++ number32 f.detail

abbrev pub IsFaultRow : FaultRow → Type 0
IsFaultRow f = (f.code < 256) × (f.reason < 256) × (f.index < 2 ^ 64) × (f.detail < 2 ^ 32)

-- ---- answers

-- the tag of what is said, and its fields
abbrev pub told_fields : Told → List (List ℕ)
told_fields (Yes rejudged need) = byte 1 ∷ flag_bytes rejudged ∷ number64 need ∷ []
told_fields (No rejudged fault) = byte 2 ∷ flag_bytes rejudged ∷ fault_bytes fault ∷ []
told_fields (NoRoom rejudged need free) = byte 3 ∷ flag_bytes rejudged ∷ number64 need ∷ number32 free ∷ []
told_fields (Leased number) = byte 4 ∷ number32 number ∷ []
told_fields (Dropped number) = byte 5 ∷ number32 number ∷ []
told_fields (Ticked number) = byte 6 ∷ number64 number ∷ []
told_fields (Moved number) = byte 7 ∷ number32 number ∷ []
told_fields (LeaseRefused fault) = byte 8 ∷ fault_bytes fault ∷ []
told_fields (MovesRefused fault) = byte 9 ∷ fault_bytes fault ∷ []

-- the numbers fit their widths
abbrev pub IsTold : Told → Type 0
IsTold (Yes rejudged need) = need < 2 ^ 64
IsTold (No rejudged fault) = IsFaultRow fault
IsTold (NoRoom rejudged need free) = (need < 2 ^ 64) × (free < 2 ^ 32)
IsTold (Leased number) = number < 2 ^ 32
IsTold (Dropped number) = number < 2 ^ 32
IsTold (Ticked number) = number < 2 ^ 64
IsTold (Moved number) = number < 2 ^ 32
IsTold (LeaseRefused fault) = IsFaultRow fault
IsTold (MovesRefused fault) = IsFaultRow fault

-- the fields of an answer: its position, its tag, and then its own
abbrev pub answer_fields : AnswerRow → List (List ℕ)
answer_fields answer = number32 answer.position ∷ told_fields answer.told

abbrev pub IsAnswerRow : AnswerRow → Type 0
IsAnswerRow answer = (answer.position < 2 ^ 32) × IsTold answer.told

-- the encoding of an answer
abbrev pub answer_bytes : AnswerRow → List ℕ
answer_bytes answer = joined (answer_fields answer)

-- what a decoder of answers answers to these bytes
abbrev pub DecodedAnswer : List ℕ → Result AnswerRow LayoutFault → Type 0
DecodedAnswer bytes answer = Answer IsAnswerRow answer_fields bytes answer
