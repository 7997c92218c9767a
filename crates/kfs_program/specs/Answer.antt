-- How a word that takes a few lines ends: what it read, and what it wrote.
use Rattle.std.specs.Prelude.{◌≡◌, ℕ, List, [], ◌∷◌, ◌++◌, Bool, Option, Result, Ok, Err}
use Rattle.std.specs.Io.KnownBytes.{Consumes, IsAtEnd}
use Rattle.std.specs.List.{AllByRecursion}
use Rattle.kfs_program_text.specs.Streams.{Exchanges}
use Rattle.kfs_program.specs.Images.Showing.{AnswersImage, Passes, Shows, bytes_said}
use Rattle.kfs_program.specs.Engine.Transcript.{LineIsShort}
use Rattle.kfs_program.specs.declared.sessions.fault.EngineFault.{EngineFault}
use Rattle.kfs_program.specs.declared.sessions.fault.EngineFault.TheVariants.{WriteFault, OutOfMemory}
use Rattle.kfs_program.specs.Lines.{AreFirstLines, IsUnreadable}
use Rattle.kfs_program.specs.Planning.{SaysOfPlan, WantsForPlan}
use Rattle.kfs_program.specs.declared.answer.LineWord.{LineWord}
use Rattle.kfs_program.specs.declared.answer.LineWord.TheVariants.{Fsck, Show, Plan}

-- ---- each word

-- the word that takes an image says this for its one line
abbrev pub SaysOfImage : ((bytes text : List ℕ) → Type 0) → (lines : List (List ℕ)) → (is_image : Bool) → (text : List ℕ) → Type 0
SaysOfImage Says (line ∷ []) is_image text = AnswersImage Says (bytes_said line) is_image text
SaysOfImage Says lines is_image text = ⊥

-- having taken these lines, the word wants a further one
abbrev pub Wants : LineWord → (lines : List (List ℕ)) → Type 0
Wants Fsck lines = lines ≡ []
Wants Show lines = lines ≡ []
Wants Plan lines = WantsForPlan lines

-- having taken these lines, the word wants no more, and says this; true where all of them are accepted
abbrev pub Says : (A : Type 0) → LineWord → (lines : List (List ℕ)) → (is_done : Bool) → (text : List ℕ) → Type 0
Says A Fsck lines is_done text = SaysOfImage Passes lines is_done text
Says A Show lines is_done text = SaysOfImage (Shows A) lines is_done text
Says A Plan lines is_done text = SaysOfPlan lines is_done text

-- ---- what comes of it

module _ (A : Type 0) (word : LineWord) where
  -- the word takes these first lines of the input, and says this for them
  pub record IsSaid (at_end : Type 0) (input : List ℕ) (is_done : Bool) (text : List ℕ) : Type 0 where
    pub lines : List (List ℕ)
    pub first : AreFirstLines at_end input lines
    pub short : AllByRecursion LineIsShort lines
    pub says : Says A word lines is_done text

  -- a line that the word wants can't be read
  pub record IsStopped (fault : EngineFault) (input : List ℕ) : Type 0 where
    pub lines : List (List ℕ)
    pub wants : Wants word lines
    pub stopped : IsUnreadable fault input lines
    pub short : AllByRecursion LineIsShort lines

  -- what is to be written for the input, by how its reading ended
  abbrev pub IsTold : (at_end : Type 0) → Result Bool EngineFault → (input text : List ℕ) → Type 0
  IsTold at_end (Ok is_done) input text = IsSaid at_end input is_done text
  IsTold at_end (Err OutOfMemory) input text = Unit {0}
  IsTold at_end (Err fault) input text = IsStopped fault input

  -- so the word reads; `after` is what the reader has left
  abbrev pub Tells : (before after : Option (List ℕ)) → (text : List ℕ) → Result Bool EngineFault → Type 0
  Tells before after text result = (input : List ℕ) × Consumes before after input × IsTold (IsAtEnd after) result input text

  -- the text is written for the input, by how the word ended: where a line can't be read, or memory was
  -- refused, nothing is written; where the writer failed, a first part of the text
  abbrev pub IsAnswered : (at_end : Type 0) → Result Bool EngineFault → (input text : List ℕ) → Type 0
  IsAnswered at_end (Ok is_done) input text = IsSaid at_end input is_done text
  IsAnswered at_end (Err WriteFault) input text = (is_done : Bool) × (unwritten : List ℕ) × IsSaid at_end input is_done (text ++ unwritten)
  IsAnswered at_end (Err fault) input text = IsTold at_end (Err fault) input text × (text ≡ [])

  -- so a word reads and writes; `after_reads` is what the reader has left
  abbrev pub Answers : (before_reads after_reads before_writes after_writes : Option (List ℕ)) → Result Bool EngineFault → Type 0
  Answers before_reads after_reads before_writes after_writes result =
      Exchanges before_reads after_reads before_writes after_writes (IsAnswered (IsAtEnd after_reads) result)
