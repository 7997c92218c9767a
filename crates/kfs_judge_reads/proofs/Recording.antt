-- What calls of a recorder have in common: nothing is read, one more read, one call after another.
use Rattle.std.specs.Prelude.{◌≡◌, ◌⊎◌, true, IsErr, Result, Ok, Err, List, [], ◌∷◌, ◌++◌, Contains, slice_index_or, refl}
use Rattle.std.proofs.Common.{inl, inr, ⊎_elim, subst, sym, ◌∙◌, arith}
use Rattle.std.proofs.lemmas.List.Elements.{Contains-get_or, Contains-push_cases, Contains-append_left, Contains-append_right, Contains-append_cases}
use Rattle.kfs_model.specs.Sight.{Cell, ClientSight}
use Rattle.kfs_judge_reads.specs.declared.reads.Read.{Read}
use Rattle.kfs_judge_reads.specs.declared.reads.ReadAnswer.{ReadAnswer}
use Rattle.kfs_judge_reads.specs.declared.reads.Recorder.{Recorder}
use Rattle.kfs_judge_reads.specs.Reads.{cell_of, Agrees, AreAmong, AreOnce, IsPart, Within}
use Rattle.kfs_judge_reads.specs.Recorders.{GoesOn, AnswersLook, LooksAlong, seen_by}

-- ---- the reads that agree with the view

module _ {A : Type 0} where
  pub goes_nowhere : (recorder : Recorder A) → GoesOn recorder recorder
  goes_nowhere recorder = record { grows = λ state agrees. agrees; same = refl; keeps = refl; agrees = λ agrees. agrees; once = λ kept once. once }

  pub goes_then : {first then last : Recorder A} → GoesOn first then → GoesOn then last → GoesOn first last
  goes_then front back = record {
    grows = λ state agrees. front.grows state (back.grows state agrees);
    same = back.same ∙ front.same;
    keeps = back.keeps ∙ front.keeps;
    agrees = λ agrees. back.agrees (front.agrees agrees);
    once = λ kept once. back.once (front.keeps ∙ kept) (front.once kept once);
  }

  -- memory runs out
  module _ {X E : Type 0} {old new : Recorder A} (goes : GoesOn old new) where
    pub look_cut_short : (cells : List Cell) (says : X → ClientSight → Type 0) (result : Result X E) → IsErr result → AnswersLook old new result cells says
    look_cut_short cells says (Err error) is = record { goes = goes; known = tt; among = tt }
    look_cut_short cells says (Ok found) is = cc

    pub cut_short : (cells : ClientSight → List Cell) (says : X → ClientSight → Type 0) (result : Result X E) → IsErr result → LooksAlong old new result cells says
    cut_short cells says (Err error) is = record { goes = goes; known = tt; among = tt }
    cut_short cells says (Ok found) is = cc

-- ---- the cells of what is read

pub within_same : (entries : List (Read × ReadAnswer)) (among : List Cell) → Within entries entries among
within_same entries among = record { each = λ e there. inl there }

pub within_then : {first then last : List (Read × ReadAnswer)} {among : List Cell} → Within first then among → Within then last among → Within first last among
within_then {first} {then} {last} {among} front back = record { each = λ e there. at e (back.each e there) }
  where
    at : (e : Read × ReadAnswer) → Contains then e ⊎ Contains among (cell_of e.0) → Contains first e ⊎ Contains among (cell_of e.0)
    at e (inl earlier) = front.each e earlier
    at e (inr here) = inr here

pub within_wider : {first last : List (Read × ReadAnswer)} {few many : List Cell} → IsPart few many → Within first last few → Within first last many
within_wider {first} {last} {few} {many} part within = record { each = λ e there. at e (within.each e there) }
  where
    at : (e : Read × ReadAnswer) → Contains first e ⊎ Contains few (cell_of e.0) → Contains first e ⊎ Contains many (cell_of e.0)
    at e (inl earlier) = inl earlier
    at e (inr here) = inr (part (cell_of e.0) here)

pub first_is_in : (cell : Cell) (cells : List Cell) → Contains (cell ∷ cells) cell
first_is_in cell cells = Contains-get_or (cell ∷ cells) 0 cell (omega arith)

pub within_one : (old new : List (Read × ReadAnswer)) (read : Read) (seen : ReadAnswer) → new ≡ old ++ (read, seen) ∷ [] → Within old new (cell_of read ∷ [])
within_one old new read seen is = record { each = λ e there. at e (Contains-push_cases old (read, seen) e (subst (λ es. Contains es e) is there)) }
  where
    at : (e : Read × ReadAnswer) → Contains old e ⊎ ((read, seen) ≡ e) → Contains old e ⊎ Contains (cell_of read ∷ []) (cell_of e.0)
    at e (inl earlier) = inl earlier
    at e (inr last) = inr (subst (λ (other : Read × ReadAnswer). Contains (cell_of read ∷ []) (cell_of other.0)) last (first_is_in (cell_of read) []))

-- ---- parts of a list of cells

pub part_of_itself : (cells : List Cell) → IsPart cells cells
part_of_itself cells cell there = there

pub left_is_part : (left right : List Cell) → IsPart left (left ++ right)
left_is_part left right cell there = Contains-append_left left right cell there

pub right_is_part : (left right : List Cell) → IsPart right (left ++ right)
right_is_part left right cell there = Contains-append_right left right cell there

pub both_are_part : (left right cells : List Cell) → IsPart left cells → IsPart right cells → IsPart (left ++ right) cells
both_are_part left right cells in_left in_right cell there = ⊎_elim (in_left cell) (in_right cell) (Contains-append_cases left right cell there)

pub none_is_part : (cells : List Cell) → IsPart [] cells
none_is_part cells cell there = absurd (omega (arith, there.1))

pub one_is_part : (cell : Cell) (cells : List Cell) → Contains cells cell → IsPart (cell ∷ []) cells
one_is_part cell cells here other there = ⊎_elim (λ none. absurd (omega (arith, none.1))) (λ same. subst (Contains cells) same here) (Contains-push_cases [] cell other there)

-- ---- from no read on

no_read : (e : Read × ReadAnswer) → Contains [] e → ⊥
no_read e there = omega (arith, there.1)

module _ {A : Type 0} (shown : ClientSight) (fresh recorder : Recorder A) (none : fresh.reads.entries ≡ []) where
  pub agrees_from_none : seen_by fresh ≡ shown → GoesOn fresh recorder → Agrees recorder.reads.entries shown
  agrees_from_none is goes = subst (Agrees recorder.reads.entries) (goes.same ∙ is) (goes.agrees (subst (λ entries. Agrees entries (seen_by fresh)) (sym none) (record { each = tt })))

  pub among_from_none : (cells : List Cell) → Within fresh.reads.entries recorder.reads.entries cells → AreAmong recorder.reads.entries cells
  among_from_none cells within k d inside = at (within.each (slice_index_or recorder.reads.entries k d) (Contains-get_or recorder.reads.entries k d inside))
    where
      at : Contains fresh.reads.entries (slice_index_or recorder.reads.entries k d) ⊎ Contains cells (cell_of (slice_index_or recorder.reads.entries k d).0) → Contains cells (cell_of (slice_index_or recorder.reads.entries k d).0)
      at (inl earlier) = absurd (no_read (slice_index_or recorder.reads.entries k d) (subst (λ entries. Contains entries (slice_index_or recorder.reads.entries k d)) none earlier))
      at (inr here) = here

  pub once_from_none : fresh.reads.keeps ≡ true → GoesOn fresh recorder → AreOnce recorder.reads.entries
  once_from_none kept goes = goes.once kept (subst AreOnce (sym none) (λ i j d before inside. absurd (omega (arith, inside))))
