-- Shares: what each of several workers is dealt.
use Rattle.std.specs.Prelude.{ℕ, ◌+◌, ◌%◌, ◌==◌, Bool, true, false, List, [], ◌∷◌, ◌++◌, length, get_or, set, replicate}

-- the list, where it is so; else nothing
abbrev pub when : {X : Type 0} → Bool → List X → List X
when true xs = xs
when false xs = []

-- those elements whose number is this one modulo the count, in their order; the first of them all has the number `from`
abbrev pub share_from : {X : Type 0} → (count share from : ℕ) → List X → List X
share_from count share from [] = []
share_from count share from (x ∷ xs) = when (from % count == share) (x ∷ []) ++ share_from count share (from + 1) xs

-- ---- the same of lists whose last element has the number 0

-- the element is put behind those of the list at this place
abbrev pub put_in : {X : Type 0} → (at : ℕ) → X → List (List X) → List (List X)
put_in at x lists = set lists at (get_or lists at [] ++ x ∷ [])

-- the elements, dealt to so many lists: the one with a number is in the list at `number mod count`
abbrev pub dealt : {X : Type 0} → (count : ℕ) → List X → List (List X)
dealt count [] = replicate count []
dealt count (x ∷ xs) = put_in (length xs % count) x (dealt count xs)
