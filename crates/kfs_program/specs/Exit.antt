-- The exit status of the program, and what a person is told of it.
use Rattle.std.specs.Prelude.{◌≡◌, ◌⊎◌, ◌≤◌, ◌==◌, ℕ, List, [], length, slice_index_or, codes, Bool, true, false, Option, Some, None, Result, Ok, Err, if◌then◌else◌}
use Rattle.std.specs.Borrow.{Bor}
use Rattle.std.specs.Io.KnownBytes.{IsAtEnd}
use Rattle.kfs_program.specs.Engine.Transcript.{IsSession}
use Rattle.kfs_program_text.specs.Streams.{Exchanges}
use Rattle.kfs_program.specs.Answer.{IsAnswered}
use Rattle.kfs_program.specs.declared.answer.LineWord.{LineWord}
use Rattle.kfs_program.specs.declared.answer.LineWord.TheVariants.{Fsck, Show, Plan}
use Rattle.kfs_program.specs.declared.run.Subcommand.{Subcommand}
use Rattle.kfs_program.specs.declared.run.Subcommand.TheVariants.{Run, Lines}
use Rattle.kfs_program.specs.declared.sessions.fault.EngineFault.{EngineFault}
use Rattle.kfs_program.specs.declared.sessions.fault.EngineFault.TheVariants.{ReadFault, WriteFault, LongLine, OutOfMemory}

abbrev pub fault_status_of : EngineFault → ℕ
fault_status_of ReadFault = 3
fault_status_of WriteFault = 3
fault_status_of LongLine = 3
fault_status_of OutOfMemory = 4

abbrev pub status_of : Result (Unit {0}) EngineFault → ℕ
status_of (Ok done) = 0
status_of (Err fault) = fault_status_of fault

-- of a word that takes a few lines: whether all of them were let in
abbrev pub answer_status_of : Result Bool EngineFault → ℕ
answer_status_of (Ok true) = 0
answer_status_of (Ok false) = 1
answer_status_of (Err fault) = fault_status_of fault

-- the words as a caller hands them in: the first is the program's name
abbrev pub Words : Type 0
Words = List (Bor (List ℕ))

-- the text of the second word, empty where there is none
abbrev pub second_of : Words → List ℕ
second_of words = (slice_index_or words 1 (record { ref_ptr = (0, 0); now = [] })).now

-- the second word is this one, and there is no third
abbrev pub HasSecond : Words → (name : List ℕ) → Type 0
HasSecond words name = (length words ≡ 2) × (second_of words ≡ name)

abbrev pub name_of : LineWord → List ℕ
name_of Fsck = codes "fsck"
name_of Show = codes "show"
name_of Plan = codes "plan"

-- what the words ask for: without a second one it is to run
abbrev pub IsAskedFor : Words → Subcommand → Type 0
IsAskedFor words Run = (length words ≤ 1) ⊎ HasSecond words (codes "run")
IsAskedFor words (Lines word) = HasSecond words (name_of word)

-- nothing was read, and nothing written
abbrev pub IsUntouched : (input text : List ℕ) → Type 0
IsUntouched input text = (input ≡ []) × (text ≡ [])

-- the engine ended in this way, with the reader at its end or not, and this is its status
pub record IsEnded (at_end : Type 0) (status : ℕ) (input text : List ℕ) : Type 0 where
  pub ended : Result (Unit {0}) EngineFault
  pub status_is : status ≡ status_of ended
  pub session : IsSession at_end ended input text

-- a word that takes a few lines ended in this way, and this is its status
pub record IsAnswerEnded (A : Type 0) (word : LineWord) (at_end : Type 0) (status : ℕ) (input text : List ℕ) : Type 0 where
  pub ended : Result Bool EngineFault
  pub status_is : status ≡ answer_status_of ended
  pub answered : IsAnswered A word at_end ended input text

-- what was asked for ended in this way
abbrev pub EndsAs : (A : Type 0) → (at_end : Type 0) → Subcommand → (status : ℕ) → (input text : List ℕ) → Type 0
EndsAs A at_end Run status input text = IsEnded at_end status input text
EndsAs A at_end (Lines word) status input text = IsAnswerEnded A word at_end status input text

-- The words are refused, as they are where they ask for nothing, or memory for them is; then nothing was
-- read. Or else what they ask for was done.
abbrev pub IsExit : (A : Type 0) → (at_end : Type 0) → (words : Words) → (status : ℕ) → (input text : List ℕ) → Type 0
IsExit A at_end words status input text =
    ((status ≡ 2) × IsUntouched input text)
    ⊎ (((status ≡ 4) × IsUntouched input text) ⊎ ((asked : Subcommand) × IsAskedFor words asked × EndsAs A at_end asked status input text))

-- so the words are run; `after_reads` is what the reader has left
abbrev pub Exits : (A : Type 0) → (before_reads after_reads before_writes after_writes : Option (List ℕ)) → (words : Words) → (status : ℕ) → Type 0
Exits A before_reads after_reads before_writes after_writes words status =
    Exchanges before_reads after_reads before_writes after_writes (IsExit A (IsAtEnd after_reads) words status)

-- the message for a status, if there is one
abbrev pub message_of : (status : ℕ) → Option (List ℕ)
message_of status =
    if status == 2 then Some (codes "usage: kfs [run | fsck | show | plan]")
    else if status == 3 then Some (codes "the input or the output failed, or a line was too long")
    else if status == 4 then Some (codes "out of memory")
    else None
