-- What the engine writes, given what it reads.
use Rattle.std.specs.Prelude.{◌≡◌, ◌⊎◌, ◌<◌, ◌≤◌, ℕ, List, [], ◌∷◌, ◌++◌, length, Option, Result, Ok, Err}
use Rattle.std.specs.Io.KnownBytes.{IsAtEnd}
use Rattle.std.specs.List.{AllByRecursion}
use Rattle.kfs_program_text.specs.Cut.{cut, line_end, lines_of}
use Rattle.kfs_program_text.specs.Streams.{Exchanges}
use Rattle.kfs_program.specs.Engine.Session.{Stage, AnswersLines, fresh}
use Rattle.kfs_program.specs.declared.sessions.fault.EngineFault.{EngineFault}
use Rattle.kfs_program.specs.declared.sessions.fault.EngineFault.TheVariants.{ReadFault, WriteFault, LongLine, OutOfMemory}

-- the most bytes of a line, without its end
abbrev pub longest_line : ℕ
longest_line = 16777216

abbrev pub LineIsShort : (line : List ℕ) → Type 0
LineIsShort line = length line ≤ longest_line

-- a new session answers these lines with this text, and none of them is too long
abbrev pub IsText : (lines : List (List ℕ)) → (text : List ℕ) → Type 0
IsText lines text = (last : Stage) × AnswersLines fresh lines text last × AllByRecursion LineIsShort lines

-- the input consists of these lines with their ends, and then of the parts in `left`
abbrev pub IsCut : (input : List ℕ) → (lines left : List (List ℕ)) → Type 0
IsCut input lines left = cut line_end input ≡ lines ++ left

-- the lines before `next` are answered, and `next` isn't
pub record StopsBefore (next : List ℕ) (later : List (List ℕ)) (input text : List ℕ) : Type 0 where
  pub lines : List (List ℕ)
  pub parts : IsCut input lines (next ∷ later)
  pub answered : IsText lines text

-- these are first lines of the input, each with its end; or all of its lines, where the reader has come
-- to its end: then the last one may lack its own
abbrev pub AreFirstLines : (at_end : Type 0) → (input : List ℕ) → (lines : List (List ℕ)) → Type 0
AreFirstLines at_end input lines = ((next : List ℕ) × (later : List (List ℕ)) × IsCut input lines (next ∷ later)) ⊎ (at_end × (lines ≡ lines_of input))

-- the text is a first part of the answers to such lines
pub record BreaksOff (at_end : Type 0) (input text : List ℕ) : Type 0 where
  pub lines : List (List ℕ)
  pub unwritten : List ℕ
  pub first : AreFirstLines at_end input lines
  pub answered : IsText lines (text ++ unwritten)

-- the text that was written for what was read, by how the engine ended, and whether the reader had come
-- to its end
abbrev pub IsSession : {T : Type 0} → (at_end : Type 0) → Result T EngineFault → (input text : List ℕ) → Type 0
IsSession at_end (Ok done) input text = IsText (lines_of input) text
IsSession at_end (Err ReadFault) input text = (rest : List ℕ) × StopsBefore rest [] input text
IsSession at_end (Err WriteFault) input text = BreaksOff at_end input text
IsSession at_end (Err LongLine) input text = (long : List ℕ) × (later : List (List ℕ)) × (longest_line < length long) × StopsBefore long later input text
IsSession at_end (Err OutOfMemory) input text = (next : List ℕ) × (later : List (List ℕ)) × StopsBefore next later input text

-- a session is read and its replies are written, by how the engine ended; `after_reads` is what the
-- reader has left
abbrev pub Converses : {T : Type 0} → (before_reads after_reads before_writes after_writes : Option (List ℕ)) → Result T EngineFault → Type 0
Converses before_reads after_reads before_writes after_writes result =
    Exchanges before_reads after_reads before_writes after_writes (IsSession (IsAtEnd after_reads) result)
