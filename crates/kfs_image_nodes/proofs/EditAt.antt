-- The edit of a number among edits that ascend: it stands where the lower numbers end, or nowhere.
use Rattle.std.proofs.Common.{◌≡◌, ℕ, zero, suc, ◌<◌, ◌≤◌, Bool, true, false, cond, ltb, List, [], ◌∷◌, length, get_or, Option, refl, sym, ap, ◌∙◌, arith}
use Rattle.std.specs.List.Sorted.{IsPartitionedBy, IsPartitionPoint}
use Rattle.std.specs.Cmp.{unsigned_tied}
use Rattle.std.proofs.lemmas.Bool.{eq-eqb, ne_eqb, ltb-true, ltb-false}
use Rattle.kfs_maps.specs.declared.pages.change.NumberEdit.{NumberEdit}
use Rattle.kfs_maps.specs.Pages.Edits.{edited}

module _ {X : Type 0} where
  abbrev Ascend : List (NumberEdit X) → Type 0
  Ascend edits = (i j : ℕ) (d : NumberEdit X) → i < j → j < length edits → (get_or edits i d).number < (get_or edits j d).number

  rest_ascends : (e : NumberEdit X) (es : List (NumberEdit X)) → Ascend (e ∷ es) → Ascend es
  rest_ascends e es ascend i j d less below = ascend (suc i) (suc j) d (omega (arith, less)) (omega (arith, below))

  module _ (number : ℕ) where
    abbrev pub is_lower : NumberEdit X → Bool
    is_lower e = ltb e.number number

    pub parted : (edits : List (NumberEdit X)) → Ascend edits → IsPartitionedBy is_lower edits
    parted edits ascend i j d h below lower = by (is_lower (get_or edits i d)) refl
      where
        by : (b : Bool) → is_lower (get_or edits i d) ≡ b → is_lower (get_or edits i d) ≡ true
        by true is = is
        by false isnt =
            let last = ltb-true (get_or edits j d).number number lower in
            let first = ltb-false (get_or edits i d).number number isnt in
            by_place (ltb i j) refl last first
          where
            by_place : (b : Bool) → ltb i j ≡ b → (get_or edits j d).number < number → number ≤ (get_or edits i d).number → is_lower (get_or edits i d) ≡ true
            by_place true less last first = let rise = ascend i j d (ltb-true i j less) below in absurd (omega (arith, rise, last, first))
            by_place false more last first =
                let same : i ≡ j = omega (arith, h, ltb-false i j more) in
                ap (λ k. is_lower (get_or edits k d)) same ∙ lower

    abbrev Parts : List (NumberEdit X) → (place : ℕ) → Type 0
    Parts edits i = IsPartitionPoint (λ e. is_lower e ≡ true) (λ e. is_lower e ≡ false) edits i

    parts_on : (e : NumberEdit X) (es : List (NumberEdit X)) (i : ℕ) → Parts (e ∷ es) (suc i) → Parts es i
    parts_on e es i part = ((λ k d low high. part.0 (suc k) d (omega (arith, low)) (omega (arith, high))), (λ k d low high. part.1 (suc k) d (omega (arith, low)) (omega (arith, high))))

    -- an edit of another number
    beside : (e : NumberEdit X) (es : List (NumberEdit X)) (before : Option X) → (e.number ≡ number → ⊥) → edited (e ∷ es) number before ≡ edited es number before
    beside e es before other = ap (λ b. edited es number (cond b e.value before)) (unsigned_tied number e.number ∙ ne_eqb number e.number (λ same. other (sym same)))

    -- edits of higher numbers
    above : (edits : List (NumberEdit X)) (before : Option X) → ((k : ℕ) (d : NumberEdit X) → k < length edits → number < (get_or edits k d).number) → edited edits number before ≡ before
    above [] before higher = refl
    above (e ∷ es) before higher =
        let first = higher 0 e (omega arith) in
        beside e es before (λ same. absurd (omega (arith, first, same))) ∙ above es before (λ k d below. higher (suc k) d (omega (arith, below)))

    passed : (e : NumberEdit X) (es : List (NumberEdit X)) (i : ℕ) (before : Option X) → Parts (e ∷ es) (suc i) → edited (e ∷ es) number before ≡ edited es number before
    passed e es i before part =
        let lower = ltb-true e.number number (part.0 0 e (omega arith) (omega arith)) in
        beside e es before (λ same. absurd (omega (arith, lower, same)))

    -- the value is that of the first edit which isn't lower, if it is of the number
    pub edit_at : (edits : List (NumberEdit X)) (i : ℕ) (before : Option X) → Ascend edits → Parts edits i → (e : NumberEdit X) → i < length edits → get_or edits i e ≡ e → e.number ≡ number → edited edits number before ≡ e.value
    edit_at [] i before ascend part e below is same = absurd (omega (arith, below))
    edit_at (x ∷ xs) zero before ascend part e below is same =
        ap (λ b. edited xs number (cond b x.value before)) (unsigned_tied number x.number ∙ eq-eqb number x.number (sym same ∙ sym (ap (λ (e : NumberEdit X). e.number) is)))
        ∙ above xs x.value (λ k d less. let rise = ascend 0 (suc k) d (omega arith) (omega (arith, less)) in let first = ap (λ (e : NumberEdit X). e.number) is in omega (arith, rise, first, same))
        ∙ ap (λ (e : NumberEdit X). e.value) is
    edit_at (x ∷ xs) (suc i) before ascend part e below is same = passed x xs i before part ∙ edit_at xs i before (rest_ascends x xs ascend) (parts_on x xs i part) e (omega (arith, below)) is same

    -- and else nothing changes
    pub other_edit : (edits : List (NumberEdit X)) (i : ℕ) (before : Option X) → Ascend edits → Parts edits i → (e : NumberEdit X) → i < length edits → get_or edits i e ≡ e → (e.number ≡ number → ⊥) → edited edits number before ≡ before
    other_edit [] i before ascend part e below is other = refl
    other_edit (x ∷ xs) zero before ascend part e below is other =
        let first = ap (λ (e : NumberEdit X). e.number) is in
        let large = ltb-false x.number number (part.1 0 x (omega arith) (omega arith)) in
        let isnt : x.number ≡ number → ⊥ = λ same. other (sym first ∙ same) in
        let more : number < x.number = above_other number x.number large isnt in
        above (x ∷ xs) before (λ k d below. at k d below more)
      where
        above_other : (a b : ℕ) → a ≤ b → (b ≡ a → ⊥) → a < b
        above_other a b most isnt = by (ltb a b) refl
          where
            by : (t : Bool) → ltb a b ≡ t → a < b
            by true less = ltb-true a b less
            by false more = absurd (isnt (omega (arith, most, ltb-false a b more)))

        at : (k : ℕ) (d : NumberEdit X) → k < length (x ∷ xs) → number < x.number → number < (get_or (x ∷ xs) k d).number
        at zero d less more = more
        at (suc k) d less more = let rise = ascend 0 (suc k) d (omega arith) less in omega (arith, rise, more)
    other_edit (x ∷ xs) (suc i) before ascend part e below is other = passed x xs i before part ∙ other_edit xs i before (rest_ascends x xs ascend) (parts_on x xs i part) e (omega (arith, below)) is other

    pub all_lower : (edits : List (NumberEdit X)) (i : ℕ) (before : Option X) → Parts edits i → length edits ≤ i → edited edits number before ≡ before
    all_lower [] i before part past = refl
    all_lower (x ∷ xs) zero before part past = absurd (omega (arith, past))
    all_lower (x ∷ xs) (suc i) before part past = passed x xs i before part ∙ all_lower xs i before (parts_on x xs i part) (omega (arith, past))
