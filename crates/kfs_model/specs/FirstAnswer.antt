-- The first answer among the elements of a list, where each is asked together with the elements before
-- it.
use Rattle.std.specs.Prelude.{ℕ, zero, suc, List, length, take, slice_get, Option, Some, None, option_and_then}

-- the answer of the least number below `count` that has one
abbrev pub least_answer : {Y : Type 0} → (ask : ℕ → Option Y) → (count : ℕ) → Option Y
least_answer ask zero = None
least_answer ask (suc count) = elim (least_answer ask count) [ Some answer ↦ Some answer | None ↦ ask count ]

-- the answer of the element at this place, asked together with those before it
abbrev pub answer_at : {X Y : Type 0} → (ask : (before : List X) → X → Option Y) → List X → (place : ℕ) → Option Y
answer_at ask xs place = option_and_then (ask (take place xs)) (slice_get xs place)

abbrev pub first_answer : {X Y : Type 0} → (ask : (before : List X) → X → Option Y) → List X → Option Y
first_answer ask xs = least_answer (answer_at ask xs) (length xs)
