-- How a conversation goes on.
use Rattle.std.proofs.Common.{◌≡◌, ◌≢◌, ℕ, List, [], ◌∷◌, ◌++◌, refl, sym, ap, ◌∙◌, append_assoc, append-nil, subst, inl, inr, Result, Ok, Err, IfErr, MatchResult, arith}
use Rattle.std.specs.Prelude.{OnOk}
use Rattle.std.specs.List.{AllByRecursion}
use Rattle.kfs_program.specs.Engine.Transcript.{AreFirstLines, IsSession, LineIsShort, IsText}
use Rattle.kfs_program_text.specs.Cut.{cut, line_end, lines_in, lines_of}
use Rattle.kfs_program.specs.Engine.Progress.{IsStopped, IsTaken, HasAnswered}
use Rattle.kfs_program.specs.Engine.Session.{AnswersLine, AnswersLines, Stage, fresh}
use Rattle.kfs_program.specs.Engine.Views.{stage_of}
use Rattle.kfs_program.specs.declared.sessions.session_loop.SessionLoop.{SessionLoop}
use Rattle.kfs_program.specs.declared.sessions.fault.EngineFault.{EngineFault}
use Rattle.kfs_program.specs.declared.sessions.fault.EngineFault.TheVariants.{ReadFault, WriteFault, LongLine, OutOfMemory}
use Rattle.kfs_program_text.proofs.Cuts.{cut-joined, cut-more, cut-some}

-- one more line
pub AnswersLines-more : (s : Stage) (lines : List (List ℕ)) (text : List ℕ) (mid : Stage) (line reply : List ℕ) (next : Stage)
    → AnswersLines s lines text mid → AnswersLine mid line (reply, next) → AnswersLines s (lines ++ line ∷ []) (text ++ reply) next
AnswersLines-more s [] text mid line reply next run answer =
    let P : Stage → Type 0 = λ t. AnswersLine t line (reply, next) in
    (reply, next, [], subst P run.1 answer, (refl, refl), ap (λ t. t ++ reply) run.0 ∙ sym (append-nil reply))
AnswersLines-more s (first ∷ lines) text mid line reply next run answer =
    let later = AnswersLines-more run.1 lines run.2 mid line reply next run.4 answer in
    (run.0, run.1, run.2 ++ reply, run.3, later, ap (λ t. t ++ reply) run.5 ∙ append_assoc run.0 run.2 reply)

short-more : (lines : List (List ℕ)) (line : List ℕ) → AllByRecursion LineIsShort lines → LineIsShort line → AllByRecursion LineIsShort (lines ++ line ∷ [])
short-more [] line all last = (last, tt)
short-more (first ∷ lines) line all last = (all.0, short-more lines line all.1 last)

-- nothing is read
pub HasAnswered-new : (s : Stage) (held : List ℕ) → s ≡ fresh → held ≡ [] → HasAnswered s held [] [] []
unfolding cut
HasAnswered-new s held new none = record { lines = []; parts = rw none refl; endless = rw none refl; answered = (refl, new); short = tt; held_short = rw none (omega arith) }

-- the same stage and bytes
HasAnswered-same : (s next : Stage) (held line rest input text : List ℕ) → next ≡ s → line ≡ held → HasAnswered s held rest input text → HasAnswered next line rest input text
HasAnswered-same s next held line rest input text stage is h =
    let P : Stage → Type 0 = λ t. HasAnswered t line rest input text in
    let Q : List ℕ → Type 0 = λ l. HasAnswered s l rest input text in
    subst P (sym stage) (subst Q (sym is) h)

-- more bytes are read
pub HasAnswered-read : (s : Stage) (held bytes input text : List ℕ) → HasAnswered s held [] input text → HasAnswered s held bytes (input ++ bytes) text
HasAnswered-read s held bytes input text h =
    let now : cut line_end input ≡ h.lines ++ held ∷ [] = rw (append-nil held, h.endless) at h.parts in
    record { lines = h.lines; parts = cut-more line_end input bytes h.lines held now; endless = h.endless; answered = h.answered; short = h.short; held_short = h.held_short }

-- bytes without a line's end are kept
HasAnswered-kept : (s : Stage) (held rest input text : List ℕ) → cut line_end rest ≡ rest ∷ [] → LineIsShort (held ++ rest) → HasAnswered s held rest input text → HasAnswered s (held ++ rest) [] input text
HasAnswered-kept s held rest input text none within h = record {
  lines = h.lines;
  parts = rw (append-nil (held ++ rest)) h.parts;
  endless = cut-joined line_end held rest rest [] h.endless none;
  answered = h.answered;
  short = h.short;
  held_short = within;
}

-- the first line of the rest is answered
HasAnswered-answered : (s next : Stage) (held rest front back input text reply : List ℕ) → cut line_end rest ≡ front ∷ cut line_end back → AnswersLine s (held ++ front) (reply, next) × LineIsShort (held ++ front)
    → HasAnswered s held rest input text → HasAnswered next [] back input (text ++ reply)
unfolding cut
HasAnswered-answered s next held rest front back input text reply first answer h = record {
  lines = h.lines ++ (held ++ front) ∷ [];
  parts =
      h.parts
      ∙ ap (λ parts. h.lines ++ parts) (cut-joined line_end held rest front (cut line_end back) h.endless first)
      ∙ sym (append_assoc h.lines ((held ++ front) ∷ []) (cut line_end back));
  endless = refl;
  answered = AnswersLines-more fresh h.lines text s (held ++ front) reply next h.answered answer.0;
  short = short-more h.lines (held ++ front) h.short answer.1;
  held_short = omega arith;
}

-- the same, where more is written before
pub HasAnswered-line : (s next : Stage) (held line rest front back input text more reply : List ℕ) → line ≡ [] → cut line_end rest ≡ front ∷ cut line_end back → AnswersLine s (held ++ front) (reply, next) × LineIsShort (held ++ front)
    → HasAnswered s held rest input (text ++ more) → HasAnswered next line back input (text ++ (more ++ reply))
HasAnswered-line s next held line rest front back input text more reply cleared first answer h =
    let P : List ℕ → Type 0 = λ t. HasAnswered next line back input t in
    subst P (append_assoc text more reply) (HasAnswered-same next next [] line back input _ refl cleared (HasAnswered-answered s next held rest front back input (text ++ more) reply first answer h))

-- ---- the lines of parts

lines_in-front : (lines : List (List ℕ)) (part : List ℕ) (parts : List (List ℕ)) → lines_in (lines ++ part ∷ parts) ≡ lines ++ lines_in (part ∷ parts)
lines_in-front [] part parts = refl
lines_in-front (line ∷ []) part parts = refl
lines_in-front (line ∷ next ∷ lines) part parts = ap (λ rest. line ∷ rest) (lines_in-front (next ∷ lines) part parts)

lines_in-line : (line : List ℕ) → line ≢ [] → lines_in (line ∷ []) ≡ line ∷ []
lines_in-line [] some = absurd (some refl)
lines_in-line (byte ∷ bytes) some = refl

-- a line with its end, before other parts; or one that isn't empty, at the reader's end
CountsAsLine : (at_end : Type 0) (line : List ℕ) (later : List (List ℕ)) → Type 0
CountsAsLine at_end line [] = at_end × (line ≢ [])
CountsAsLine at_end line (part ∷ parts) = Unit {0}

first_lines : (at_end : Type 0) (input : List ℕ) (lines : List (List ℕ)) (line : List ℕ) (later : List (List ℕ)) → cut line_end input ≡ lines ++ line ∷ later → CountsAsLine at_end line later → AreFirstLines at_end input (lines ++ line ∷ [])
unfolding CountsAsLine
first_lines at_end input lines line [] parts counts = inr (counts.0, sym (ap lines_in parts ∙ lines_in-front lines line [] ∙ ap (λ rest. lines ++ rest) (lines_in-line line counts.1)))
first_lines at_end input lines line (part ∷ later) parts counts = inl (part, later, parts ∙ sym (append_assoc lines (line ∷ []) (part ∷ later)))

-- the session ends at a line
HasAnswered-stopped : (T at_end : Type 0) (fault : EngineFault) (s : Stage) (held rest line input text more : List ℕ) (later : List (List ℕ)) → cut line_end (held ++ rest) ≡ line ∷ later
    → (fault ≡ WriteFault → CountsAsLine at_end line later) → IsStopped fault s line more → HasAnswered s held rest input text → IsSession {T = T} at_end (Err fault) input (text ++ more)
HasAnswered-stopped T at_end ReadFault s held rest line input text more later parts some stop h = absurd stop
HasAnswered-stopped T at_end WriteFault s held rest line input text more later parts some stop h = record {
  lines = h.lines ++ line ∷ [];
  unwritten = stop.0;
  first = first_lines at_end input h.lines line later (h.parts ∙ ap (λ parts. h.lines ++ parts) parts) (some refl);
  answered = (stop.1, rw (append_assoc text more stop.0) (AnswersLines-more fresh h.lines text s line (more ++ stop.0) stop.1 h.answered stop.2), short-more h.lines line h.short stop.3);
}
HasAnswered-stopped T at_end LongLine s held rest line input text more later parts some stop h =
    (line, later, stop.0, record { lines = h.lines; parts = h.parts ∙ ap (λ parts. h.lines ++ parts) parts; answered = (s, rw (stop.1, append-nil text) h.answered, h.short) })
HasAnswered-stopped T at_end OutOfMemory s held rest line input text more later parts some stop h =
    (line, later, record { lines = h.lines; parts = h.parts ∙ ap (λ parts. h.lines ++ parts) parts; answered = (s, rw (stop, append-nil text) h.answered, h.short) })

-- the session ends at the first line of the rest, which has its end
pub HasAnswered-stopped_line : (T : Type 0) (fault : EngineFault) (s : Stage) (held rest front back input text more last : List ℕ) → cut line_end rest ≡ front ∷ cut line_end back
    → IsStopped fault s (held ++ front) last → HasAnswered s held rest input (text ++ more) → IsSession {T = T} ⊥ (Err fault) input (text ++ (more ++ last))
unfolding CountsAsLine
HasAnswered-stopped_line T fault s held rest front back input text more last first stop h =
    let P : List ℕ → Type 0 = λ t. IsSession {T = T} ⊥ (Err fault) input t in
    let joined = cut-joined line_end held rest front (cut line_end back) h.endless first in
    subst P (append_assoc text more last) (HasAnswered-stopped T ⊥ fault s held rest (held ++ front) input (text ++ more) last (cut line_end back) joined (λ _. before (cut line_end back) (cut-some line_end back)) stop h)
  where
    before : (parts : List (List ℕ)) → parts ≢ [] → CountsAsLine ⊥ (held ++ front) parts
    before [] some = absurd (some refl)
    before (part ∷ parts) some = tt

-- the session ends at the line that is held, at the reader's end
pub HasAnswered-stopped_last : (T : Type 0) (fault : EngineFault) (s : Stage) (held input text more : List ℕ) → held ≢ [] → IsStopped fault s held more → HasAnswered s held [] input text
    → IsSession {T = T} (Unit {0}) (Err fault) input (text ++ more)
unfolding CountsAsLine
HasAnswered-stopped_last T fault s held input text more some stop h =
    HasAnswered-stopped T (Unit {0}) fault s held [] held input text more [] (rw (append-nil held) h.endless) (λ _. (tt, some)) stop h

-- the rest without a line's end is kept, or the session ends at it
pub HasAnswered-rest : {A T : Type 0} (ended : Result T EngineFault) (session_loop : SessionLoop A) (s : Stage) (held rest input text : List ℕ) → stage_of session_loop.session ≡ s
    → cut line_end rest ≡ rest ∷ [] → MatchResult ended (λ _. (session_loop.line.items ≡ held ++ rest) × LineIsShort (held ++ rest)) (λ fault. IsStopped fault s (held ++ rest) [] × (fault ≢ WriteFault))
    → HasAnswered s held rest input text → IsTaken ended session_loop input text
HasAnswered-rest (Ok done) session_loop s held rest input text stage none kept h =
    HasAnswered-same s _ (held ++ rest) _ [] input text stage kept.0 (HasAnswered-kept s held rest input text none kept.1 h)
HasAnswered-rest {T} (Err fault) session_loop s held rest input text stage none stop h =
    let P : List ℕ → Type 0 = λ t. IsSession {T = T} ⊥ (Err fault) input t in
    subst P (append-nil text) (HasAnswered-stopped T ⊥ fault s held rest (held ++ rest) input text [] [] (cut-joined line_end held rest rest [] h.endless none) (λ is. absurd (stop.1 is)) stop.0 h)

-- the reader fails
pub HasAnswered-unread : (T : Type 0) (fault : EngineFault) (s : Stage) (held input text : List ℕ) → fault ≡ ReadFault → HasAnswered s held [] input text → IsSession {T = T} ⊥ (Err fault) input text
HasAnswered-unread T fault s held input text is h =
    let P : EngineFault → Type 0 = λ f. IsSession {T = T} ⊥ (Err f) input text in
    let parts : cut line_end input ≡ h.lines ++ held ∷ [] = rw (append-nil held, h.endless) at h.parts in
    subst P (sym is) (held, record { lines = h.lines; parts = parts; answered = (s, h.answered, h.short) })

-- the writer fails behind all that was answered
HasAnswered-unflushed : (T at_end : Type 0) (fault : EngineFault) (s : Stage) (lines : List (List ℕ)) (input text : List ℕ) → fault ≡ WriteFault → AreFirstLines at_end input lines
    → AnswersLines fresh lines text s → AllByRecursion LineIsShort lines → IsSession {T = T} at_end (Err fault) input text
HasAnswered-unflushed T at_end fault s lines input text is first run short =
    let P : EngineFault → Type 0 = λ f. IsSession {T = T} at_end (Err f) input text in
    subst P (sym is) (record { lines = lines; unwritten = []; first = first; answered = (s, rw (append-nil text) run, short) })

-- the input ends at a line's end
pub HasAnswered-ended : {T : Type 0} (ended : Result T EngineFault) (s : Stage) (held input text : List ℕ) → held ≡ [] → IfErr ended (λ fault. fault ≡ WriteFault)
    → HasAnswered s held [] input text → IsSession (Unit {0}) ended input (text ++ [])
HasAnswered-ended ended s held input text none flushed h = by ended flushed
  where
    parts : cut line_end input ≡ h.lines ++ [] ∷ []
    parts = rw none at (rw (append-nil held, h.endless) at h.parts)

    lines : lines_of input ≡ h.lines
    lines = ap lines_in parts ∙ lines_in-front h.lines [] [] ∙ append-nil h.lines

    by : {T : Type 0} (ended : Result T EngineFault) → IfErr ended (λ fault. fault ≡ WriteFault) → IsSession (Unit {0}) ended input (text ++ [])
    by (Ok done) flushed = (s, rw (lines, append-nil text) h.answered, rw lines h.short)
    by {T} (Err fault) flushed = HasAnswered-unflushed T (Unit {0}) fault s h.lines input (text ++ []) flushed (inl ([], [], parts)) (rw (append-nil text) h.answered) h.short

-- the last line lacks its end
pub HasAnswered-last : {T : Type 0} (ended : Result T EngineFault) (s next : Stage) (held input text reply : List ℕ) → held ≢ [] → AnswersLine s held (reply, next) × LineIsShort held
    → IfErr ended (λ fault. fault ≡ WriteFault) → HasAnswered s held [] input text → IsSession (Unit {0}) ended input (text ++ reply)
HasAnswered-last ended s next held input text reply some answer flushed h = by ended flushed
  where
    lines : lines_of input ≡ h.lines ++ held ∷ []
    lines = ap lines_in (rw (append-nil held, h.endless) at h.parts) ∙ lines_in-front h.lines held [] ∙ ap (λ rest. h.lines ++ rest) (lines_in-line held some)

    run : AnswersLines fresh (h.lines ++ held ∷ []) (text ++ reply) next
    run = AnswersLines-more fresh h.lines text s held reply next h.answered answer.0

    short : AllByRecursion LineIsShort (h.lines ++ held ∷ [])
    short = short-more h.lines held h.short answer.1

    by : {T : Type 0} (ended : Result T EngineFault) → IfErr ended (λ fault. fault ≡ WriteFault) → IsSession (Unit {0}) ended input (text ++ reply)
    by (Ok done) flushed = (next, rw lines run, rw lines short)
    by {T} (Err fault) flushed = HasAnswered-unflushed T (Unit {0}) fault next (h.lines ++ held ∷ []) input (text ++ reply) flushed (inr (tt, sym lines)) run short

-- there is no memory to read anything
pub nothing-read : (T at_end : Type 0) (fault : EngineFault) → fault ≡ OutOfMemory → IsSession {T = T} at_end (Err fault) [] []
unfolding cut
nothing-read T at_end fault is =
    let P : EngineFault → Type 0 = λ f. IsSession {T = T} at_end (Err f) [] [] in
    subst P (sym is) ([], [], record { lines = []; parts = refl; answered = (fresh, (refl, refl), tt) })

-- the writer fails behind all lines that were answered, before the bytes that are held
pub HasAnswered-unsent : (T at_end : Type 0) (s : Stage) (held input text : List ℕ) → HasAnswered s held [] input text → IsSession {T = T} at_end (Err WriteFault) input text
HasAnswered-unsent T at_end s held input text h =
    let parts : cut line_end input ≡ h.lines ++ held ∷ [] = rw (append-nil held, h.endless) at h.parts in
    HasAnswered-unflushed T at_end WriteFault s h.lines input text refl (inl (held, [], parts)) h.answered h.short

-- of a session's text a first part is written, where the writer fails
pub first_written : {T : Type 0} (U at_end : Type 0) (ended : Result T EngineFault) (input text rest : List ℕ) → OnOk ended at_end → IsSession at_end ended input (text ++ rest) → IsSession {T = U} at_end (Err WriteFault) input text
first_written U at_end (Ok done) input text rest at is = record { lines = lines_of input; unwritten = rest; first = inr (at, refl); answered = is }
first_written U at_end (Err ReadFault) input text rest at (next, is) = record { lines = is.lines; unwritten = rest; first = inl (next, [], is.parts); answered = is.answered }
first_written U at_end (Err WriteFault) input text rest at is =
    record { lines = is.lines; unwritten = rest ++ is.unwritten; first = is.first; answered = subst (IsText is.lines) (append_assoc text rest is.unwritten) is.answered }
first_written U at_end (Err LongLine) input text rest at (long, later, over, is) = record { lines = is.lines; unwritten = rest; first = inl (long, later, is.parts); answered = is.answered }
first_written U at_end (Err OutOfMemory) input text rest at (next, later, is) = record { lines = is.lines; unwritten = rest; first = inl (next, later, is.parts); answered = is.answered }

first_at : (one other : Type 0) (input : List ℕ) (lines : List (List ℕ)) → (one → other) → AreFirstLines one input lines → AreFirstLines other input lines
first_at one other input lines follows (inl whole) = inl whole
first_at one other input lines follows (inr (at, all)) = inr (follows at, all)

-- a session is one, too, where more is known of the reader
pub session_at : {T : Type 0} (one other : Type 0) (ended : Result T EngineFault) (input text : List ℕ) → (one → other) → IsSession one ended input text → IsSession other ended input text
session_at one other (Ok done) input text follows is = is
session_at one other (Err ReadFault) input text follows is = is
session_at one other (Err WriteFault) input text follows is = record { lines = is.lines; unwritten = is.unwritten; first = first_at one other input is.lines follows is.first; answered = is.answered }
session_at one other (Err LongLine) input text follows is = is
session_at one other (Err OutOfMemory) input text follows is = is
