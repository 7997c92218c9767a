-- What a word says for the lines that it has taken, and what is written of that.
use Rattle.std.proofs.Common.{◌≡◌, ℕ, List, [], ◌∷◌, ◌++◌, refl, sym, subst, ◌∙◌, inl, inr, Bool, true, false, Option, Result, Ok, Err}
use Rattle.std.specs.Io.KnownBytes.{IsAtEnd}
use Rattle.std.specs.Result.{IsErrAnd}
use Rattle.std.proofs.KnownBytes.{Appends-nil}
use Rattle.kfs_program_text.specs.Cut.{cut, line_end}
use Rattle.kfs_program_text.specs.Streams.{IsWritten, Writes}
use Rattle.kfs_program_text.proofs.Cuts.{cut-some}
use Rattle.kfs_program.specs.Images.Showing.{AnswersImage, AppendsAnswer, bytes_said}
use Rattle.kfs_program.specs.declared.sessions.fault.EngineFault.{EngineFault}
use Rattle.kfs_program.specs.declared.sessions.fault.EngineFault.TheVariants.{ReadFault, WriteFault, LongLine, OutOfMemory}
use Rattle.kfs_program.specs.Answer.{Answers, IsSaid, Says, Tells, Wants}
use Rattle.kfs_program.specs.Lines.{AreFirstLines, AreTaken, AreTakenFrom, IsNextTaken}
use Rattle.kfs_program.specs.declared.answer.LineWord.{LineWord}
use Rattle.kfs_program.specs.declared.input.Unread.{Unread}

-- ---- lines that are taken

first_of : (at_end : Type 0) (input left : List ℕ) (lines parts : List (List ℕ)) → (parts ≡ [] → ⊥) → cut line_end input ≡ lines ++ parts → AreFirstLines at_end input lines
first_of at_end input left lines [] some is = absurd (some refl)
first_of at_end input left lines (next ∷ later) some is = inl (next, later, is)

first_from : (at_end : Type 0) (is_ended : Bool) (left input : List ℕ) (lines : List (List ℕ)) → AreTakenFrom at_end is_ended left input lines → AreFirstLines at_end input lines
first_from at_end false left input lines is = first_of at_end input left lines (cut line_end left) (cut-some line_end left) is
first_from at_end true left input lines ended = inr ended

-- ---- what is said for them

module _ {Z : Type 0} (A : Type 0) (word : LineWord) (first now : Option (List ℕ)) (input text : List ℕ) (lines : List (List ℕ)) (unread : Unread Z) where
  -- the word says this
  pub said : (is_done : Bool) → AreTaken first now input lines unread → Says A word lines is_done text → Tells A word first now text (Ok is_done)
  said is_done h says = (input, h.consumed, record { lines = lines; first = first_from (IsAtEnd now) unread.is_ended unread.bytes.items input lines h.taken; short = h.short; says = says })

  -- there is no memory for it
  pub without_memory : (result : Result Bool EngineFault) → IsErrAnd result (λ other. other ≡ OutOfMemory) → AreTaken first now input lines unread → Tells A word first now text result
  without_memory (Ok is_done) is h = absurd is
  without_memory (Err other) is h = subst (λ (f : EngineFault). Tells A word first now text (Err f)) (sym is) (input, h.consumed, tt)

  stopped_at : (line : List ℕ) (fault : EngineFault) → Wants word lines → IsNextTaken first now input lines line (Err fault) unread → Tells A word first now text (Err fault)
  stopped_at line ReadFault wants (read, stopped, short) = (input, read, record { lines = lines; wants = wants; stopped = stopped; short = short })
  stopped_at line WriteFault wants (read, stopped, short) = absurd stopped
  stopped_at line LongLine wants (read, stopped, short) = (input, read, record { lines = lines; wants = wants; stopped = stopped; short = short })
  stopped_at line OutOfMemory wants (read, stopped, short) = (input, read, tt)

  -- the next line can't be read
  pub stopped : (line : List ℕ) (fault : EngineFault) (result : Result Bool EngineFault) → IsErrAnd result (λ other. other ≡ fault) → Wants word lines → IsNextTaken first now input lines line (Err fault) unread
      → Tells A word first now text result
  stopped line fault (Ok is_done) is wants taken = absurd is
  stopped line fault (Err other) is wants taken = subst (λ (f : EngineFault). Tells A word first now text (Err f)) (sym is) (stopped_at line fault wants taken)

-- a text that is appended to none is the line's answer
pub answers : (Shows : (bytes text : List ℕ) → Type 0) (line said before text : List ℕ) (is_image : Bool) → said ≡ line → before ≡ [] → AppendsAnswer Shows said before text is_image → AnswersImage Shows (bytes_said line) is_image text
answers Shows line said before text is_image same none (answer, is, told) =
    let alone : text ≡ answer = subst (λ (b : List ℕ). text ≡ b ++ answer) none is in
    let of_line : AnswersImage Shows (bytes_said line) is_image answer = subst (λ (l : List ℕ). AnswersImage Shows (bytes_said l) is_image answer) same told in
    subst (λ (t : List ℕ). AnswersImage Shows (bytes_said line) is_image t) (sym alone) of_line

-- ---- what is written of that

module _ (A : Type 0) (word : LineWord) where
  untold_at : (before after writes : Option (List ℕ)) (text : List ℕ) (fault : EngineFault) → Tells A word before after text (Err fault) → Answers A word before after writes writes (Err fault)
  untold_at before after writes text ReadFault (input, read, told) = (input, [], read, Appends-nil writes, (told, refl))
  untold_at before after writes text WriteFault (input, read, told) = absurd told.stopped
  untold_at before after writes text LongLine (input, read, told) = (input, [], read, Appends-nil writes, (told, refl))
  untold_at before after writes text OutOfMemory (input, read, told) = (input, [], read, Appends-nil writes, (told, refl))

  -- nothing is said
  pub untold : (before after writes : Option (List ℕ)) (text : List ℕ) (fault : EngineFault) (result : Result Bool EngineFault) → IsErrAnd result (λ other. other ≡ fault) → Tells A word before after text (Err fault)
      → Answers A word before after writes writes result
  untold before after writes text fault (Ok is_done) is told = absurd is
  untold before after writes text fault (Err other) is told =
      subst (λ (f : EngineFault). Answers A word before after writes writes (Err f)) (sym is) (untold_at before after writes text fault told)

  with_text : (at_end : Type 0) (input text other : List ℕ) (is_done : Bool) → other ≡ text → IsSaid A word at_end input is_done text → IsSaid A word at_end input is_done other
  with_text at_end input text other is_done same h = subst (λ (t : List ℕ). IsSaid A word at_end input is_done t) (sym same) h

  module _ (before_reads after_reads before_writes after_writes : Option (List ℕ)) (bytes text : List ℕ) (is_done : Bool) (same : bytes ≡ text) (told : Tells A word before_reads after_reads text (Ok is_done)) where
    -- the text is written
    pub written : Writes before_writes after_writes (IsWritten {T = Unit {0}} {E = EngineFault} (Ok tt) bytes) → Answers A word before_reads after_reads before_writes after_writes (Ok is_done)
    written (out, added, all) =
        let (input, read, said) = told in
        (input, out, read, added, with_text (IsAtEnd after_reads) input text out is_done (all ∙ same) said)

    -- the writer fails
    pub written_in_part : (fault : EngineFault) (result : Result Bool EngineFault) → fault ≡ WriteFault → IsErrAnd result (λ other. other ≡ fault) → Writes before_writes after_writes (IsWritten {T = Unit {0}} {E = EngineFault} (Err fault) bytes)
        → Answers A word before_reads after_reads before_writes after_writes result
    written_in_part fault (Ok done) unwritable is wrote = absurd is
    written_in_part fault (Err other) unwritable is (out, added, (unwritten, part)) =
        let (input, read, said) = told in
        let whole = with_text (IsAtEnd after_reads) input text (out ++ unwritten) is_done (sym part ∙ same) said in
        subst (λ (f : EngineFault). Answers A word before_reads after_reads before_writes after_writes (Err f)) (sym (is ∙ unwritable)) (input, out, read, added, (is_done, unwritten, whole))
