-- The lines of an input, taken one after another, and each of them part by part.
use Rattle.std.proofs.Common.{◌≡◌, ℕ, List, [], ◌∷◌, ◌++◌, refl, sym, ap, subst, ◌∙◌, append_assoc, append-nil, arith, Bool, true, false, not, Option, Result, Ok, Err}
use Rattle.std.specs.Io.KnownBytes.{Consumes, IsAtEnd}
use Rattle.std.specs.List.{AllByRecursion}
use Rattle.std.specs.Result.{IsErrAnd}
use Rattle.std.proofs.KnownBytes.{Consumes-trans}
use Rattle.kfs_program_text.specs.Cut.{cut, line_end}
use Rattle.kfs_program_text.proofs.Cuts.{cut-joined, cut-more}
use Rattle.kfs_program.specs.Engine.Transcript.{LineIsShort}
use Rattle.kfs_program.specs.declared.sessions.fault.EngineFault.{EngineFault}
use Rattle.kfs_program.specs.declared.sessions.fault.EngineFault.TheVariants.{ReadFault, WriteFault, LongLine, OutOfMemory}
use Rattle.kfs_program.specs.Lines.{AreAllLines, AreTaken, AreTakenFrom, IsBegun, IsEmpty, IsKept, IsLineHeld, IsUnreadable, ReadsOn, TakesNext}
use Rattle.kfs_program.specs.declared.input.Unread.{Unread}

-- one more line
all-more : (P : List ℕ → Type 0) (lines : List (List ℕ)) (line : List ℕ) → AllByRecursion P lines → P line → AllByRecursion P (lines ++ line ∷ [])
all-more P [] line all last = (last, tt)
all-more P (first ∷ lines) line all last = (all.0, all-more P lines line all.1 last)

-- ---- a line, part by part

-- nothing is held
pub none_begun : (held left : List ℕ) → held ≡ [] → left ≡ [] → IsBegun held left
unfolding cut
none_begun held left none empty = (rw none refl, rw none (omega arith), empty)

module _ (held left bytes : List ℕ) (begun : IsBegun held left) where
  -- the bytes bring the line's end
  pub held_whole : (part behind line kept : List ℕ) → cut line_end bytes ≡ part ∷ cut line_end behind → IsKept held part line (Ok tt) → kept ≡ left ++ behind → IsLineHeld (held ++ bytes) line kept (Ok true)
  held_whole part behind line kept stands (same, fits) is =
      let rest : kept ≡ behind = subst (λ (l : List ℕ). kept ≡ l ++ behind) begun.2 is in
      let parts : cut line_end (held ++ bytes) ≡ (held ++ part) ∷ cut line_end behind = cut-joined line_end held bytes part (cut line_end behind) begun.0 stands in
      rw (same, rest) (parts, fits)

  -- the line goes on behind the bytes
  pub held_on : (line : List ℕ) → cut line_end bytes ≡ bytes ∷ [] → IsKept held bytes line (Ok tt) → IsLineHeld (held ++ bytes) line left (Ok false)
  held_on line endless (same, fits) = (same, begun.2, cut-joined line_end held bytes bytes [] begun.0 endless, fits)

  -- the line can't be held with the bytes
  pub held_broken : (part line : List ℕ) (later : List (List ℕ)) (fault : EngineFault) → cut line_end bytes ≡ part ∷ later → IsKept held part line (Err fault) → IsUnreadable fault (held ++ bytes) []
  held_broken part line later ReadFault stands never = absurd never
  held_broken part line later WriteFault stands never = absurd never
  held_broken part line later LongLine stands over = (held ++ part, later, cut-joined line_end held bytes part later begun.0 stands, over)
  held_broken part line later OutOfMemory stands out = tt

-- all that is held are these bytes
pub held_alone : (cleared bytes own line left : List ℕ) (result : Result Bool EngineFault) → cleared ≡ [] → bytes ≡ own → IsLineHeld (cleared ++ bytes) line left result → IsLineHeld own line left result
held_alone cleared bytes own line left result none same held =
    let alone : IsLineHeld bytes line left result = subst (λ (c : List ℕ). IsLineHeld (c ++ bytes) line left result) none held in
    subst (λ (b : List ℕ). IsLineHeld b line left result) same alone

not_ok : (result : Result Bool EngineFault) (fault : EngineFault) (P : Type 0) → result ≡ Err fault → result ≡ Ok false → P
not_ok result fault P is_err is_ok = cc

-- the reading breaks off
pub reads_broken : (before after : Option (List ℕ)) (held input line left : List ℕ) (fault : EngineFault) (result : Result Bool EngineFault) → IsErrAnd result (λ other. other ≡ fault) → Consumes before after input → IsUnreadable fault (held ++ input) []
    → ReadsOn before after held line left result
reads_broken before after held input line left fault (Ok has_end) is read broken = absurd is
reads_broken before after held input line left fault (Err other) is read broken =
    subst (λ (f : EngineFault). ReadsOn before after held line left (Err f)) (sym is) (input, read, broken, not_ok (Err fault) fault (IsAtEnd after) refl)

-- the bytes that are held so far are the beginning of a line
pub begun_on : (bytes line left : List ℕ) → IsLineHeld bytes line left (Ok false) → IsBegun line left
begun_on bytes line left (same, none, endless, fits) = rw same (endless, fits, none)

-- ---- lines one after another

-- the lines behind others, where the input goes on with these bytes
unreadable_behind : (fault : EngineFault) (input bytes : List ℕ) (lines : List (List ℕ)) → cut line_end input ≡ lines ++ cut line_end bytes → IsUnreadable fault bytes [] → IsUnreadable fault input lines
unreadable_behind ReadFault input bytes lines parts (rest, is) = (rest, parts ∙ ap (λ (l : List (List ℕ)). lines ++ l) is)
unreadable_behind WriteFault input bytes lines parts never = absurd never
unreadable_behind LongLine input bytes lines parts (long, later, is, over) = (long, later, parts ∙ ap (λ (l : List (List ℕ)). lines ++ l) is, over)
unreadable_behind OutOfMemory input bytes lines parts out = tt

module _ {A : Type 0} where
  -- nothing is taken yet
  pub none_taken : (now : Option (List ℕ)) (unread : Unread A) → Consumes now now [] → unread.bytes.items ≡ [] → unread.is_ended ≡ false → AreTaken now now [] [] unread
  none_taken now unread none empty goes_on =
      let P : Bool → Type 0 = λ is_ended. AreTakenFrom (IsAtEnd now) is_ended unread.bytes.items [] [] in
      record { consumed = none; taken = subst P (sym goes_on) (ap (λ (l : List ℕ). cut line_end l) (sym empty)); short = tt }

  -- no line is left
  pub none_left : (at : Option (List ℕ)) (unread : Unread A) (line : List ℕ) → unread.is_ended ≡ true → line ≡ [] → TakesNext at at unread line (Ok tt) unread
  none_left at unread line ended none first input lines h =
      let P : List (List ℕ) → Bool → Type 0 = λ ls is_ended. AreTakenFrom (IsAtEnd at) is_ended unread.bytes.items input ls in
      let (at_end, (missing, are, empty)) = subst (P lines) ended h.taken in
      let all : AreAllLines input (lines ++ line ∷ []) = (missing ++ line ∷ [], ap (λ (l : List (List ℕ)). l ++ line ∷ []) are ∙ append_assoc (cut line_end input) missing (line ∷ []), all-more IsEmpty missing line empty none) in
      let fits : LineIsShort line = rw none (omega arith) in
      (input, record { consumed = h.consumed; taken = subst (P (lines ++ line ∷ [])) (sym ended) (at_end, all); short = all-more LineIsShort lines line h.short fits })

  -- what the input goes on with
  goes_on_with : (first now : Option (List ℕ)) (input : List ℕ) (lines : List (List ℕ)) (unread : Unread A) → unread.is_ended ≡ false → AreTaken first now input lines unread → cut line_end input ≡ lines ++ cut line_end unread.bytes.items
  goes_on_with first now input lines unread goes_on h =
      let P : Bool → Type 0 = λ is_ended. AreTakenFrom (IsAtEnd now) is_ended unread.bytes.items input lines in subst P goes_on h.taken

  -- the line that the bytes have is taken
  taken : (first now : Option (List ℕ)) (input bytes line left : List ℕ) (lines : List (List ℕ)) (next : Unread A) → Consumes first now input → cut line_end input ≡ lines ++ cut line_end bytes → AllByRecursion LineIsShort lines
      → IsLineHeld bytes line left (Ok true) → next.is_ended ≡ false → next.bytes.items ≡ left → AreTaken first now input (lines ++ line ∷ []) next
  taken first now input bytes line left lines next consumed parts short (stands, fits) goes_on is =
      let P : Bool → Type 0 = λ is_ended. AreTakenFrom (IsAtEnd now) is_ended next.bytes.items input (lines ++ line ∷ []) in
      let now_parts : cut line_end input ≡ (lines ++ line ∷ []) ++ cut line_end left = parts ∙ ap (λ (l : List (List ℕ)). lines ++ l) stands ∙ sym (append_assoc lines (line ∷ []) (cut line_end left)) in
      let moved : P false = subst (λ (l : List ℕ). cut line_end input ≡ (lines ++ line ∷ []) ++ cut line_end l) (sym is) now_parts in
      record { consumed = consumed; taken = subst P (sym goes_on) moved; short = all-more LineIsShort lines line short fits }

  -- the last line is taken, which has no end
  last_taken : (first now : Option (List ℕ)) (input bytes line left : List ℕ) (lines : List (List ℕ)) (next : Unread A) → Consumes first now input → IsAtEnd now → cut line_end input ≡ lines ++ cut line_end bytes → AllByRecursion LineIsShort lines
      → IsLineHeld bytes line left (Ok false) → next.is_ended ≡ true → AreTaken first now input (lines ++ line ∷ []) next
  last_taken first now input bytes line left lines next consumed at_end parts short (same, none, endless, fits) ended =
      let P : Bool → Type 0 = λ is_ended. AreTakenFrom (IsAtEnd now) is_ended next.bytes.items input (lines ++ line ∷ []) in
      let one : cut line_end bytes ≡ line ∷ [] = rw same endless in
      let all : lines ++ line ∷ [] ≡ cut line_end input ++ [] = sym (append-nil (cut line_end input) ∙ parts ∙ ap (λ (l : List (List ℕ)). lines ++ l) one) in
      record { consumed = consumed; taken = subst P (sym ended) (at_end, ([], all, tt)); short = all-more LineIsShort lines line short (rw same fits) }

  -- the line was there already
  pub was_there : (at : Option (List ℕ)) (unread next : Unread A) (line left : List ℕ) → unread.is_ended ≡ false → IsLineHeld unread.bytes.items line left (Ok true) → next.is_ended ≡ false → next.bytes.items ≡ left
      → TakesNext at at unread line (Ok tt) next
  was_there at unread next line left goes_on held still is first input lines h =
      (input, taken first at input unread.bytes.items line left lines next h.consumed (goes_on_with first at input lines unread goes_on h) h.short held still is)

  broken_at : (at : Option (List ℕ)) (unread next : Unread A) (line : List ℕ) (fault : EngineFault) → unread.is_ended ≡ false → IsUnreadable fault unread.bytes.items [] → TakesNext at at unread line (Err fault) next
  broken_at at unread next line fault goes_on broken first input lines h =
      (input, (h.consumed, unreadable_behind fault input unread.bytes.items lines (goes_on_with first at input lines unread goes_on h) broken, h.short))

  -- the bytes that are there can't be held
  pub was_broken : (at : Option (List ℕ)) (unread next : Unread A) (line : List ℕ) (fault : EngineFault) (result : Result (Unit {0}) EngineFault) → IsErrAnd result (λ other. other ≡ fault) → unread.is_ended ≡ false → IsUnreadable fault unread.bytes.items []
      → TakesNext at at unread line result next
  was_broken at unread next line fault (Ok done) is goes_on broken = absurd is
  was_broken at unread next line fault (Err other) is goes_on broken = subst (λ (f : EngineFault). TakesNext at at unread line (Err f) next) (sym is) (broken_at at unread next line fault goes_on broken)

  -- there is no memory to read on
  pub without_room : (at : Option (List ℕ)) (unread next : Unread A) (line : List ℕ) (result : Result (Unit {0}) EngineFault) → IsErrAnd result (λ other. other ≡ OutOfMemory) → TakesNext at at unread line result next
  without_room at unread next line (Ok done) is = absurd is
  without_room at unread next line (Err other) is = subst (λ (f : EngineFault). TakesNext at at unread line (Err f) next) (sym is) (λ first input lines h. (input, (h.consumed, tt, h.short)))

  module _ (before after : Option (List ℕ)) (unread next : Unread A) (line left : List ℕ) (goes_on : unread.is_ended ≡ false) (endless : cut line_end unread.bytes.items ≡ unread.bytes.items ∷ []) where
    -- how the input goes on with what is read
    grown : (first : Option (List ℕ)) (input more : List ℕ) (lines : List (List ℕ)) → AreTaken first before input lines unread → cut line_end (input ++ more) ≡ lines ++ cut line_end (unread.bytes.items ++ more)
    grown first input more lines h =
        let parts : cut line_end input ≡ lines ++ unread.bytes.items ∷ [] = goes_on_with first before input lines unread goes_on h ∙ ap (λ (l : List (List ℕ)). lines ++ l) endless in
        cut-more line_end input more lines unread.bytes.items parts

    -- the line is read to its end, or to the reader's
    pub was_read : (has_end : Bool) → ReadsOn before after unread.bytes.items line left (Ok has_end) → next.is_ended ≡ not has_end → next.bytes.items ≡ left → TakesNext before after unread line (Ok tt) next
    was_read true (more, read, held, end) still is first input lines h =
        (input ++ more, taken first after (input ++ more) (unread.bytes.items ++ more) line left lines next (Consumes-trans _ _ _ _ _ h.consumed read) (grown first input more lines h) h.short held still is)
    was_read false (more, read, held, end) ended is first input lines h =
        (input ++ more, last_taken first after (input ++ more) (unread.bytes.items ++ more) line left lines next (Consumes-trans _ _ _ _ _ h.consumed read) (end refl) (grown first input more lines h) h.short held ended)

    unreadable_at : (fault : EngineFault) → ReadsOn before after unread.bytes.items line left (Err fault) → TakesNext before after unread line (Err fault) next
    unreadable_at fault (more, read, broken, end) first input lines h =
        (input ++ more, (Consumes-trans _ _ _ _ _ h.consumed read, unreadable_behind fault (input ++ more) (unread.bytes.items ++ more) lines (grown first input more lines h) broken, h.short))

    -- the line can't be read
    pub was_unreadable : (fault : EngineFault) (result : Result (Unit {0}) EngineFault) → IsErrAnd result (λ other. other ≡ fault) → ReadsOn before after unread.bytes.items line left (Err fault) → TakesNext before after unread line result next
    was_unreadable fault (Ok done) is broken = absurd is
    was_unreadable fault (Err other) is broken = subst (λ (f : EngineFault). TakesNext before after unread line (Err f) next) (sym is) (unreadable_at fault broken)
