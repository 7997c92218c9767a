-- The places of a tier as a list that says of each whether it is free.
use Rattle.std.specs.Prelude.{◌≡◌, ℕ, ◌≤◌, Bool, false, IsTrue, List, count_by, slice_index_or}

-- whether the place is in the tier and free
abbrev pub is_free_in : List Bool → (place : ℕ) → Bool
is_free_in places place = slice_index_or places place false

-- how many places are free
abbrev pub free_count : List Bool → ℕ
free_count places = count_by (λ free. free) places

-- the place is the least free one from `from` on
pub record IsNextFree (places : List Bool) (from place : ℕ) : Type 0 where
  pub reached : from ≤ place
  pub free : IsTrue (is_free_in places place)
  pub least : (other : ℕ) → from ≤ other → IsTrue (is_free_in places other) → place ≤ other

-- no place from `from` on is free
abbrev pub AreUsedFrom : List Bool → (from : ℕ) → Type 0
AreUsedFrom places from = (place : ℕ) → from ≤ place → is_free_in places place ≡ false
