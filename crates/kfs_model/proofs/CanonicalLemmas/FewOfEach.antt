-- A list of which few elements have each value, and whose values are below a bound, isn't long.
use Rattle.std.proofs.Common.{◌≡◌, ℕ, zero, suc, ◌+◌, ◌<◌, ◌≤◌, ◌==◌, not, Bool, true, false, cond, List, [], ◌∷◌, length, filter, refl, arith}
use Rattle.std.specs.List.{AllByRecursion}
use Rattle.std.proofs.lemmas.Bool.{eqb-false}
use Rattle.kfs_model.proofs.Counts.{tally}

module _ {X : Type 0} (value : X → ℕ) where
  -- the elements with another value
  abbrev others : ℕ → List X → List X
  others n xs = filter (λ x. not (value x == n)) xs

  parted : (n : ℕ) (xs : List X) → length xs ≡ tally (λ x. value x == n) xs + length (others n xs)
  unfolding tally
  parted n [] = refl
  parted n (x ∷ xs) = at (value x == n) (parted n xs)
    where
      at : (b : Bool) → length xs ≡ tally (λ x. value x == n) xs + length (others n xs)
          → suc (length xs) ≡ cond b 1 0 + tally (λ x. value x == n) xs + length (cond (not b) (x ∷ others n xs) (others n xs))
      at true rest = omega (arith, rest)
      at false rest = omega (arith, rest)

  no_more : (test : X → Bool) (n : ℕ) (xs : List X) → tally test (others n xs) ≤ tally test xs
  unfolding tally
  no_more test n [] = omega arith
  no_more test n (x ∷ xs) = at (value x == n) (no_more test n xs)
    where
      at : (b : Bool) → tally test (others n xs) ≤ tally test xs → tally test (cond (not b) (x ∷ others n xs) (others n xs)) ≤ cond (test x) 1 0 + tally test xs
      at true rest = omega (arith, rest)
      at false rest = omega (arith, rest)

  lower : (bound : ℕ) (xs : List X) → AllByRecursion (λ x. value x < suc bound) xs → AllByRecursion (λ x. value x < bound) (others bound xs)
  lower bound [] all = tt
  lower bound (x ∷ xs) all = at (value x == bound) refl (lower bound xs all.1)
    where
      at : (b : Bool) → (value x == bound) ≡ b → AllByRecursion (λ x. value x < bound) (others bound xs) → AllByRecursion (λ x. value x < bound) (cond (not b) (x ∷ others bound xs) (others bound xs))
      at true is rest = rest
      at false is rest = (below all.0 (eqb-false (value x) bound is), rest)
        where
          below : value x < suc bound → (value x ≡ bound → ⊥) → value x < bound
          below less other = grind (arith, other)

  -- `most` says how long a list may be whose values are below a bound
  module _ (limit : ℕ) (most : ℕ → ℕ) (grows : (bound : ℕ) → limit + most bound ≤ most (suc bound)) where
    pub not_long : (bound : ℕ) (xs : List X) → ((n : ℕ) → tally (λ x. value x == n) xs ≤ limit) → AllByRecursion (λ x. value x < bound) xs → length xs ≤ most bound
    not_long zero [] few all = omega arith
    not_long zero (x ∷ xs) few all = absurd (omega (arith, all.0))
    not_long (suc bound) xs few all =
        let rest : length (others bound xs) ≤ most bound = not_long bound (others bound xs) (λ n. omega (arith, no_more (λ x. value x == n) bound xs, few n)) (lower bound xs all) in
        omega (arith, parted bound xs, few bound, rest, grows bound)
