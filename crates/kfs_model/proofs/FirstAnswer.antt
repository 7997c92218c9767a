-- A list has no first answer exactly where each element has none behind those before it; else the first is its answer.
use Rattle.std.proofs.Common.{◌≡◌, ℕ, zero, suc, ◌+◌, ◌<◌, true, List, [], ◌∷◌, ◌++◌, length, take, drop, slice_get, Option, Some, None, is_some, ◌⊎◌, ⊎_elim, refl, sym, ap, subst, ◌∙◌, arith}
use Rattle.std.specs.Prelude.{option_and_then}
use Rattle.std.proofs.lemmas.List.{take-append-le}
use Rattle.kfs_model.specs.FirstAnswer.{least_answer, answer_at, first_answer}

last_or_below : (i count : ℕ) → i < suc count → (i < count) ⊎ (i ≡ count)
last_or_below i count h = grind arith

-- ---- numbers

module _ {Y : Type 0} (ask : ℕ → Option Y) where
  none_parts : (found rest : Option Y) → ◌≡◌ {A = Option Y} (elim found [ Some answer ↦ Some answer | None ↦ rest ]) None → (found ≡ None) × (rest ≡ None)
  none_parts None rest none = (refl, none)
  none_parts (Some answer) rest none = cc

  none_below : (count : ℕ) → least_answer ask count ≡ None → (i : ℕ) → i < count → ask i ≡ None
  none_below zero none i below = absurd (omega arith)
  none_below (suc count) none i below =
      let parts = none_parts (least_answer ask count) (ask count) none in
      ⊎_elim (none_below count parts.0 i) (λ same. ap ask same ∙ parts.1) (last_or_below i count below)

  none_from_below : (count : ℕ) → ((i : ℕ) → i < count → ask i ≡ None) → least_answer ask count ≡ None
  none_from_below zero each = refl
  none_from_below (suc count) each =
      ap (λ (found : Option Y). elim found as (λ _. Option Y) [ Some answer ↦ Some answer | None ↦ ask count ]) (none_from_below count (λ i below. each i (omega arith)))
      ∙ each count (omega arith)

  -- one that has an answer, where none below it has one
  answer_from_least : (least count : ℕ) → least < count → ((i : ℕ) → i < least → ask i ≡ None) → is_some (ask least) ≡ true → least_answer ask count ≡ ask least
  answer_from_least least zero below each some = absurd (omega arith)
  answer_from_least least (suc count) below each some = ⊎_elim (λ below'. later (answer_from_least least count below' each some)) here (last_or_below least count below)
    where
      kept : (found rest : Option Y) → is_some found ≡ true → ◌≡◌ {A = Option Y} (elim found [ Some answer ↦ Some answer | None ↦ rest ]) found
      kept None rest some' = cc
      kept (Some answer) rest some' = refl

      later : least_answer ask count ≡ ask least → least_answer ask (suc count) ≡ ask least
      later found = kept (least_answer ask count) (ask count) (ap is_some found ∙ some) ∙ found

      here : least ≡ count → least_answer ask (suc count) ≡ ask least
      here same =
          ap (λ (found : Option Y). elim found as (λ _. Option Y) [ Some answer ↦ Some answer | None ↦ ask count ])
          (none_from_below count (λ i below'. each i (subst (λ n. i < n) (sym same) below')))
          ∙ ap ask (sym same)

-- ---- elements

module _ {X : Type 0} where
  element_there : (before : List X) (x : X) (rest : List X) → slice_get (before ++ x ∷ rest) (length before) ≡ Some x
  element_there [] x rest = refl
  element_there (y ∷ before) x rest = element_there before x rest

  those_before : (before rest : List X) → take (length before) (before ++ rest) ≡ before
  those_before [] rest = refl
  those_before (y ∷ before) rest = ap (λ ys. y ∷ ys) (those_before before rest)

  cut_there : (xs : List X) (place : ℕ) (x : X) → slice_get xs place ≡ Some x → xs ≡ take place xs ++ x ∷ drop (suc place) xs
  cut_there [] place x is = cc
  cut_there (y ∷ ys) zero x is = let same : y ≡ x = cc in ap (λ z. z ∷ ys) same
  cut_there (y ∷ ys) (suc place) x is = ap (λ zs. y ∷ zs) (cut_there ys place x is)

  length_behind : (before : List X) (x : X) (rest : List X) → length before < length (before ++ x ∷ rest)
  length_behind [] x rest = omega arith
  length_behind (y ∷ before) x rest = let later = length_behind before x rest in omega arith

  length_more : (before : List X) (x : X) → length (before ++ x ∷ []) ≡ length before + 1
  length_more [] x = refl
  length_more (y ∷ before) x = let later = length_more before x in omega arith

  front_stays : (before rest : List X) (place : ℕ) → place < length before → slice_get (before ++ rest) place ≡ slice_get before place
  front_stays [] rest place below = absurd (omega arith)
  front_stays (y ∷ before) rest zero below = refl
  front_stays (y ∷ before) rest (suc place) below = front_stays before rest place (omega arith)

  place_within : (xs : List X) (place : ℕ) → place < length xs → (x : X) × (slice_get xs place ≡ Some x)
  place_within [] place below = absurd (omega arith)
  place_within (y ∷ ys) zero below = (y, refl)
  place_within (y ∷ ys) (suc place) below = place_within ys place (omega arith)

module _ {X Y : Type 0} (ask : (before : List X) → X → Option Y) where
  answer_there : (before : List X) (x : X) (rest : List X) → answer_at ask (before ++ x ∷ rest) (length before) ≡ ask before x
  answer_there before x rest =
      ap (option_and_then (ask (take (length before) (before ++ x ∷ rest)))) (element_there before x rest)
      ∙ ap (λ ys. ask ys x) (those_before before (x ∷ rest))

  -- none of the elements has an answer behind those before it
  abbrev pub NoneBehind : List X → Type 0
  NoneBehind xs = (before : List X) (x : X) (rest : List X) → xs ≡ before ++ x ∷ rest → ask before x ≡ None

  pub each_from_none : (xs : List X) → first_answer ask xs ≡ None → NoneBehind xs
  each_from_none xs none before x rest is =
      let none_there = none_below (answer_at ask (before ++ x ∷ rest)) (length (before ++ x ∷ rest)) (subst (λ ys. first_answer ask ys ≡ None) is none) (length before) (length_behind before x rest) in
      sym (answer_there before x rest) ∙ none_there

  pub none_from_each : (xs : List X) → NoneBehind xs → first_answer ask xs ≡ None
  none_from_each xs each = none_from_below (answer_at ask xs) (length xs) none_at
    where
      none_at : (place : ℕ) → place < length xs → answer_at ask xs place ≡ None
      none_at place below =
          let (x, is) = place_within xs place below in
          ap (option_and_then (ask (take place xs))) is ∙ each (take place xs) x (drop (suc place) xs) (cut_there xs place x is)

  at_front : (before rest : List X) (place : ℕ) → place < length before → answer_at ask (before ++ rest) place ≡ answer_at ask before place
  at_front before rest place below =
      let there = front_stays before rest place below in
      let front = take-append-le place before rest (omega arith) in
      λ i. option_and_then (ask (front i)) (there i)

  -- the answer of an element is the first, where none before it has one
  pub first_is : (before : List X) (x : X) (rest : List X) → first_answer ask before ≡ None → is_some (ask before x) ≡ true → first_answer ask (before ++ x ∷ rest) ≡ ask before x
  first_is before x rest none some =
      let xs = before ++ x ∷ rest in
      let there = answer_there before x rest in
      answer_from_least (answer_at ask xs) (length before) (length xs) (length_behind before x rest) (none_before (x ∷ rest)) (ap is_some there ∙ some) ∙ there
    where
      none_before : (rest : List X) (place : ℕ) → place < length before → answer_at ask (before ++ rest) place ≡ None
      none_before rest place below = at_front before rest place below ∙ none_below (answer_at ask before) (length before) none place below

  -- one more element without an answer
  pub none_more : (before : List X) (x : X) → first_answer ask before ≡ None → ask before x ≡ None → first_answer ask (before ++ x ∷ []) ≡ None
  none_more before x none none_there = none_from_below (answer_at ask (before ++ x ∷ [])) (length (before ++ x ∷ [])) none_at
    where
      none_at : (place : ℕ) → place < length (before ++ x ∷ []) → answer_at ask (before ++ x ∷ []) place ≡ None
      none_at place below =
          let long = length_more before x in
          let within : place < suc (length before) = omega arith in
          ⊎_elim
          (λ below'. at_front before (x ∷ []) place below' ∙ none_below (answer_at ask before) (length before) none place below')
          (λ same. ap (answer_at ask (before ++ x ∷ [])) same ∙ answer_there before x [] ∙ none_there)
          (last_or_below place (length before) within)
