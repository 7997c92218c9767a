-- Calls of a desk as bytes over the boundary.
use Rattle.std.specs.Prelude.{◌≡◌, ℕ, List}
use Rattle.kfs_call.specs.AnswerRow.{AnswerRow, answer_bytes}
use Rattle.kfs_call.specs.declared.fault.FieldFault.{FieldFault}
use Rattle.kfs_call.specs.declared.fault.FieldFault.TheVariants as fields
use Rattle.kfs_call_desk.specs.Calls.{IsCalled, IsRefusal}
use Rattle.kfs_call_desk.specs.Told.{IsAnswer}
use Rattle.kfs_call_desk.specs.declared.made.Called.{Called}
use Rattle.kfs_call_desk.specs.declared.made.CallFault.TheVariants.{BadCall}
use Rattle.kfs_desk.specs.Machine.{Desk}
use Rattle.kfs_c.specs.Reading.{BeginsWith}
use Rattle.kfs_c.specs.Submission.Submission.{IsFull}
use Rattle.kfs_c.specs.Submission.Told.{no_fault, numbers}
use Rattle.kfs_c.specs.declared.submission.numbers.FaultNumbers.{FaultNumbers}

-- the most bytes of an answer
abbrev pub answer_limit : ℕ
answer_limit = 20

-- the docket has fewer rows than it may have
abbrev pub HasRows : Desk → Type 0
HasRows desk = IsFull desk → ⊥

-- the buffer begins with the bytes of what was answered, and of its row of the docket
abbrev pub IsAnswerGiven : Called → (old new : List ℕ) → (count : ℕ) → Type 0
IsAnswerGiven called old new count = (answer : AnswerRow) × IsAnswer called answer × BeginsWith (answer_bytes answer) old new count

-- the bytes are a call, some answer of the desk to it is made, and the buffer begins with its bytes
abbrev pub IsSpelledCall : (bytes before after : List ℕ) → (count : ℕ) → (old new : Desk) → Type 0
IsSpelledCall bytes before after count old new = (called : Called) × IsCalled bytes old called new × IsAnswerGiven called before after count

-- why bytes are no call, as it is told
abbrev pub field_told : FieldFault → FaultNumbers
field_told (fields.BadField k) = numbers 1 0 k 0
field_told fields.Trailing = numbers 2 0 0 0
field_told fields.OutOfMemory = no_fault

-- the desk refuses the bytes since they are no call, for the reason that is told
abbrev pub IsNoCall : (bytes : List ℕ) → FaultNumbers → Desk → Type 0
IsNoCall bytes told desk = (why : FieldFault) × IsRefusal bytes desk (BadCall why) × (told ≡ field_told why)
