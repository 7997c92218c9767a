-- The first free places can be those of as many blocks.
use Rattle.std.proofs.Common.{◌≡◌, ℕ, zero, suc, ◌+◌, ◌<◌, ◌≤◌, Bool, true, false, cond, ◌==◌, List, [], ◌∷◌, length, take, filter, refl, ap, ◌∙◌, arith, eqb-true, length-take}
use Rattle.std.specs.List.{list_any, list_all}
use Rattle.std.proofs.lemmas.Bool.{and_from, and_parts, eq-eqb, ne_eqb, not_from_false, or_from, or_left, or_right}
use Rattle.kfs_model.specs.Distinct.{are_distinct}
use Rattle.kfs_model.specs.Judgement.{State, free_places}
use Rattle.kfs_model.specs.Machine.{are_chosen}
use Rattle.kfs_model.specs.Placement.{is_free, in_first_tier, numbers_from}
use Rattle.kfs_desk.specs.History.Least.{AreLeast}

module _ (passes : ℕ → Bool) where
  -- what is left once the numbers up to the first are gone
  abbrev later : (first count : ℕ) → List ℕ
  later first count = filter passes (numbers_from (first + 1) count)

  not_among : (count n x first : ℕ) → x < first → list_any (λ other. other == x) (take n (filter passes (numbers_from first count))) ≡ false
  not_among zero zero x first low = refl
  not_among zero (suc n) x first low = refl
  not_among (suc count) zero x first low = refl
  not_among (suc count) (suc n) x first low =
      at (passes first) (not_among count (suc n) x (first + 1) (omega (arith, low))) (not_among count n x (first + 1) (omega (arith, low)))
    where
      at : (b : Bool) → list_any (λ other. other == x) (take (suc n) (later first count)) ≡ false → list_any (λ other. other == x) (take n (later first count)) ≡ false
          → list_any (λ other. other == x) (take (suc n) (cond b (first ∷ later first count) (later first count))) ≡ false
      at true skipped taken = or_from _ _ (ne_eqb first x (λ same. omega (arith, low, same))) taken
      at false skipped taken = skipped

  distinct_front : (count n first : ℕ) → are_distinct (take n (filter passes (numbers_from first count))) ≡ true
  distinct_front zero zero first = refl
  distinct_front zero (suc n) first = refl
  distinct_front (suc count) zero first = refl
  distinct_front (suc count) (suc n) first = at (passes first) (distinct_front count (suc n) (first + 1)) (distinct_front count n (first + 1))
    where
      at : (b : Bool) → are_distinct (take (suc n) (later first count)) ≡ true → are_distinct (take n (later first count)) ≡ true → are_distinct (take (suc n) (cond b (first ∷ later first count) (later first count))) ≡ true
      at true skipped taken = and_from _ _ (not_from_false _ (not_among count n first (first + 1) (omega arith))) taken
      at false skipped taken = skipped

front_among : (n : ℕ) (ys whole : List ℕ) → ((x : ℕ) → list_any (λ y. y == x) ys ≡ true → list_any (λ y. y == x) whole ≡ true) → list_all (λ x. list_any (λ y. y == x) whole) (take n ys) ≡ true
front_among zero ys whole among = refl
front_among (suc n) [] whole among = refl
front_among (suc n) (y ∷ ys) whole among =
    and_from _ _ (among y (or_left (y == y) (list_any (λ z. z == y) ys) (eq-eqb y y refl)))
    (front_among n ys whole (λ x is. among x (or_right (y == x) (list_any (λ z. z == x) ys) is)))

module _ (s : State) (blocks : List (ℕ × ℕ)) where
  distinct : are_distinct (take (length blocks) (free_places s)) ≡ true
  unfolding free_places
  distinct = distinct_front (λ place. is_free s.placement (in_first_tier place)) s.sizes.first (length blocks) 0

  -- where there is room, the least free places can be chosen
  pub least_chosen : length blocks ≤ length (free_places s) → are_chosen s blocks (take (length blocks) (free_places s)) ≡ true
  least_chosen room =
      let free = free_places s in
      let few = length-take (length blocks) free in
      and_from _ _ (and_from _ _ (eq-eqb (length (take (length blocks) free)) (length blocks) (omega (arith, few, room))) (front_among (length blocks) free free (λ x is. is)))
      distinct

  -- the least places that were chosen are as many as the blocks
  pub chosen_least : (places : List ℕ) → are_chosen s blocks places ≡ true → AreLeast s places → places ≡ take (length blocks) (free_places s)
  chosen_least places chosen least = least ∙ ap (λ n. take n (free_places s)) (eqb-true (length places) (length blocks) (and_parts _ _ (and_parts _ _ chosen).0).0)

-- the first places are the least
pub front_is_least : (s : State) (n : ℕ) → AreLeast s (take n (free_places s))
front_is_least s n = by n (free_places s)
  where
    by : (n : ℕ) (xs : List ℕ) → take n xs ≡ take (length (take n xs)) xs
    by zero xs = refl
    by (suc n) [] = refl
    by (suc n) (x ∷ xs) = ap (λ ys. x ∷ ys) (by n xs)
