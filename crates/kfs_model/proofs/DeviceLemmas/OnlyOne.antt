-- Where a test is counted once, one element alone passes it; and the numbers below a count.
use Rattle.std.proofs.Common.{◌≡◌, ℕ, zero, suc, ◌+◌, ◌<◌, ◌≤◌, Bool, true, false, cond, List, [], ◌∷◌, inl, inr, ⊎_elim, count_by, refl, sym, ap, ◌∙◌, arith, ltb-true}
use Rattle.std.specs.List.{list_any}
use Rattle.std.proofs.lemmas.Bool.{or_cases, or_left, or_right, cases_eq}
use Rattle.kfs_model.specs.Placement.{numbers_from, below}
use Rattle.kfs_model.proofs.Counts.{tally, is_tally, any_tally}
use Rattle.kfs_model.proofs.DeviceLemmas.Among.{Among}

module _ {X : Type 0} (test : X → Bool) where
  pub any_among : (xs : List X) (x : X) → Among x xs → test x ≡ true → list_any test xs ≡ true
  any_among [] x among passes = absurd among
  any_among (y ∷ ys) x among passes =
      ⊎_elim (λ here. or_left (test y) _ (sym (ap test here) ∙ passes)) (λ later. or_right (test y) _ (any_among ys x later passes)) among

  pub among_any : (xs : List X) → list_any test xs ≡ true → (x : X) × Among x xs × (test x ≡ true)
  among_any [] any = cc
  among_any (y ∷ ys) any =
      ⊎_elim (λ here. (y, inl refl, here)) (λ later. let (x, there, passes) = among_any ys later in (x, inr there, passes)) (or_cases (test y) _ any)

  one_more : (rest : ℕ) (b : Bool) → b ≡ true → cond b 1 0 + rest ≡ 1 → rest ≡ 0
  one_more rest true is one = omega arith
  one_more rest false is one = cc

  none_more : (rest : ℕ) (b : Bool) → b ≡ false → cond b 1 0 + rest ≡ 1 → rest ≡ 1
  none_more rest true is one = cc
  none_more rest false is one = omega arith

  no_more : (xs : List X) (x : X) → tally test xs ≡ 0 → Among x xs → test x ≡ true → ⊥
  no_more xs x none among passes = let some = ltb-true 0 _ (sym (any_tally test xs) ∙ any_among xs x among passes) in omega arith

  tally_one : (xs : List X) → tally test xs ≡ 1 → (x y : X) → Among x xs → test x ≡ true → Among y xs → test y ≡ true → x ≡ y
  unfolding tally
  tally_one [] one x y among passes also too = absurd among
  tally_one (z ∷ zs) one x y among passes also too =
      ⊎_elim
      (λ here. ⊎_elim (λ there. here ∙ sym there) (λ later. absurd (no_more zs y (one_more (tally test zs) (test z) (sym (ap test here) ∙ passes) one) later too)) also)
      (λ behind. ⊎_elim
      (λ there. absurd (no_more zs x (one_more (tally test zs) (test z) (sym (ap test there) ∙ too) one) behind passes))
      (λ later. both_behind (test z) refl (λ rest. tally_one zs rest x y behind passes later too) (λ none. no_more zs x none behind passes))
      also)
      among
    where
      both_behind : (b : Bool) → test z ≡ b → (tally test zs ≡ 1 → x ≡ y) → (tally test zs ≡ 0 → ⊥) → x ≡ y
      both_behind true is rest none = absurd (none (one_more (tally test zs) (test z) is one))
      both_behind false is rest none = rest (none_more (tally test zs) (test z) is one)

  some_pass : (xs : List X) (x : X) → Among x xs → test x ≡ true → 1 ≤ tally test xs
  some_pass xs x among passes = ltb-true 0 _ (sym (any_tally test xs) ∙ any_among xs x among passes)

  -- of those that pass there is one at the most
  pub only_one : (xs : List X) → count_by test xs ≤ 1 → (x y : X) → Among x xs → test x ≡ true → Among y xs → test y ≡ true → x ≡ y
  only_one xs few x y among passes =
      let some = some_pass xs x among passes in
      let one : tally test xs ≡ 1 = omega (arith, is_tally test xs) in
      tally_one xs one x y among passes

-- ---- numbers

pub among_numbers : (first count n : ℕ) → Among n (numbers_from first count) → (first ≤ n) × (n < first + count)
among_numbers first zero n among = absurd among
among_numbers first (suc count) n among =
    ⊎_elim (λ here. (omega arith, omega arith)) (λ later. let (least, below) = among_numbers (first + 1) count n later in (omega arith, omega arith)) among

pub numbers_among : (first count n : ℕ) → first ≤ n → n < first + count → Among n (numbers_from first count)
numbers_among first zero n least below = absurd (omega arith)
numbers_among first (suc count) n least below =
    ⊎_elim (λ same. inl (sym same)) (λ other. inr (numbers_among (first + 1) count n (above other) (omega arith))) (cases_eq first n)
  where
    above : (first ≡ n → ⊥) → first + 1 ≤ n
    above other = grind (arith, other)

pub below_among : (count n : ℕ) → n < count → Among n (below count)
below_among count n less = numbers_among 0 count n (omega arith) (omega arith)

pub among_below : (count n : ℕ) → Among n (below count) → n < count
among_below count n among = let (least, less) = among_numbers 0 count n among in omega arith
