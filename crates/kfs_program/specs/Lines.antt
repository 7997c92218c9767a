-- The lines of an input, taken one after another.
use Rattle.std.specs.Prelude.{◌≡◌, ◌⊎◌, ℕ, ◌<◌, List, [], ◌∷◌, ◌++◌, length, Bool, true, false, Option, Result, Ok, Err}
use Rattle.std.specs.Io.KnownBytes.{Consumes, IsAtEnd}
use Rattle.std.specs.List.{AllByRecursion}
use Rattle.kfs_program_text.specs.Cut.{cut, line_end}
use Rattle.kfs_program.specs.Engine.Transcript.{LineIsShort, longest_line}
use Rattle.kfs_program.specs.declared.sessions.fault.EngineFault.{EngineFault}
use Rattle.kfs_program.specs.declared.sessions.fault.EngineFault.TheVariants.{ReadFault, WriteFault, LongLine, OutOfMemory}
use Rattle.kfs_program.specs.declared.input.Unread.{Unread}

-- ---- lines

-- the line is empty
abbrev pub IsEmpty : (line : List ℕ) → Type 0
IsEmpty line = line ≡ []

-- the lines are all that the input has, and then empty ones, which stand for lines that it hasn't
abbrev pub AreAllLines : (input : List ℕ) → (lines : List (List ℕ)) → Type 0
AreAllLines input lines = (missing : List (List ℕ)) × (lines ≡ cut line_end input ++ missing) × AllByRecursion IsEmpty missing

-- the lines are the input's first, without their ends; where the reader has come to its own end, the last
-- of them may lack one, and lines that the input hasn't are empty
abbrev pub AreFirstLines : (at_end : Type 0) → (input : List ℕ) → (lines : List (List ℕ)) → Type 0
AreFirstLines at_end input lines =
    ((next : List ℕ) × (later : List (List ℕ)) × (cut line_end input ≡ lines ++ next ∷ later))
    ⊎ (at_end × AreAllLines input lines)

-- the line that comes behind these can't be read, for this reason
abbrev pub IsUnreadable : EngineFault → (input : List ℕ) → (lines : List (List ℕ)) → Type 0
IsUnreadable ReadFault input lines = (rest : List ℕ) × (cut line_end input ≡ lines ++ rest ∷ [])
IsUnreadable WriteFault input lines = ⊥
IsUnreadable LongLine input lines = (long : List ℕ) × (later : List (List ℕ)) × (cut line_end input ≡ lines ++ long ∷ later) × (longest_line < length long)
IsUnreadable OutOfMemory input lines = Unit {0}

-- ---- how far the input is read

-- the lines are taken from the input; behind them it goes on with the bytes that are left, or has ended
abbrev pub AreTakenFrom : (at_end : Type 0) → (is_ended : Bool) → (left input : List ℕ) → (lines : List (List ℕ)) → Type 0
AreTakenFrom at_end false left input lines = cut line_end input ≡ lines ++ cut line_end left
AreTakenFrom at_end true left input lines = at_end × AreAllLines input lines

module _ {A : Type 0} where
  -- the lines are taken from what was read; the reader had `first` left before that, and now has `now`
  pub record AreTaken (first now : Option (List ℕ)) (input : List ℕ) (lines : List (List ℕ)) (unread : Unread A) : Type 0 where
    pub consumed : Consumes first now input
    pub taken : AreTakenFrom (IsAtEnd now) unread.is_ended unread.bytes.items input lines
    pub short : AllByRecursion LineIsShort lines

  -- a further line is taken, or it can't be read
  abbrev pub IsNextTaken : (first now : Option (List ℕ)) → (input : List ℕ) → (lines : List (List ℕ)) → (line : List ℕ) → Result (Unit {0}) EngineFault → Unread A → Type 0
  IsNextTaken first now input lines line (Ok done) unread = AreTaken first now input (lines ++ line ∷ []) unread
  IsNextTaken first now input lines line (Err fault) unread = Consumes first now input × IsUnreadable fault input lines × AllByRecursion LineIsShort lines

  -- whatever lines were taken, so the next is
  abbrev pub TakesNext : (before after : Option (List ℕ)) → Unread A → (line : List ℕ) → Result (Unit {0}) EngineFault → Unread A → Type 0
  TakesNext before after unread line result next =
      (first : Option (List ℕ)) (input : List ℕ) (lines : List (List ℕ)) → AreTaken first before input lines unread → (whole : List ℕ) × IsNextTaken first after whole lines line result next

-- ---- a line, part by part

-- the bytes are kept behind those held, or the line would be too long with them
abbrev pub IsKept : (held part after : List ℕ) → Result (Unit {0}) EngineFault → Type 0
IsKept held part after (Ok done) = (after ≡ held ++ part) × LineIsShort (held ++ part)
IsKept held part after (Err ReadFault) = ⊥
IsKept held part after (Err WriteFault) = ⊥
IsKept held part after (Err LongLine) = longest_line < length (held ++ part)
IsKept held part after (Err OutOfMemory) = Unit {0}

-- the line is held that begins the bytes, and what is behind its end is left; or the bytes have no line's
-- end, or can't be held
abbrev pub IsLineHeld : (bytes line left : List ℕ) → Result Bool EngineFault → Type 0
IsLineHeld bytes line left (Ok true) = (cut line_end bytes ≡ line ∷ cut line_end left) × LineIsShort line
IsLineHeld bytes line left (Ok false) = (line ≡ bytes) × (left ≡ []) × (cut line_end bytes ≡ bytes ∷ []) × LineIsShort bytes
IsLineHeld bytes line left (Err fault) = IsUnreadable fault bytes []

-- no line ends among the bytes that are held
abbrev pub IsBegun : (held left : List ℕ) → Type 0
IsBegun held left = (cut line_end held ≡ held ∷ []) × LineIsShort held × (left ≡ [])

-- Behind the bytes that are held the reader is read until a line ends, or to its own end.
abbrev pub ReadsOn : (before after : Option (List ℕ)) → (held line left : List ℕ) → Result Bool EngineFault → Type 0
ReadsOn before after held line left result =
    (input : List ℕ) × Consumes before after input × IsLineHeld (held ++ input) line left result × ((result ≡ Ok false) → IsAtEnd after)
