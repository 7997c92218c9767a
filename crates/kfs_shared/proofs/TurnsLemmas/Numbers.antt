-- Lists of numbers, none of which stands there twice.
use Rattle.std.proofs.Common.{◌≡◌, ℕ, zero, suc, ◌+◌, ◌<◌, ◌≤◌, ◌≢◌, ◌⊎◌, inl, inr, List, [], ◌∷◌, length, sym, refl, ◌∙◌, subst, ⊎_elim, arith}
use mathlib.Core.Logic.{dite}
use native.Mathlib.Decide.{ℕ_discrete}
use Rattle.kfs_shared.specs.Turns.Lists.{Has, AreDistinct}

-- a number stands in it or doesn't
pub has_or_not : (xs : List ℕ) (k : ℕ) → Has xs k ⊎ (Has xs k → ⊥)
has_or_not [] k = inr (λ h. absurd h)
has_or_not (x ∷ xs) k = dite (ℕ_discrete x k) (λ same. inl (inl same))
    (λ other. ⊎_elim (λ (h : Has xs k). inl (inr h)) (λ (n : Has xs k → ⊥). inr (λ h. ⊎_elim (λ (e : x ≡ k). other e) n h)) (has_or_not xs k))

-- a number's place closes up behind it
abbrev Without : List ℕ → ℕ → Type 0
Without xs k = (ys : List ℕ) × (length xs ≡ length ys + 1) × AreDistinct ys × ((j : ℕ) → Has ys j → Has xs j × (j ≢ k))

taken_out : (xs : List ℕ) (k : ℕ) → AreDistinct xs → Has xs k → Without xs k
taken_out [] k apart h = absurd h
taken_out (x ∷ xs) k apart (inl is) = (xs, omega arith, apart.1, λ j h. (inr h, λ same. apart.0 (subst (Has xs) (same ∙ sym is) h)))
taken_out (x ∷ xs) k apart (inr h) =
    let less = taken_out xs k apart.1 h in
    let ys = less.0 in
    let count = less.1 in (
      x ∷ ys,
      omega arith,
      (λ again. apart.0 (less.3 x again).0, less.2),
      λ j at. ⊎_elim (λ (e : x ≡ j). (inl e, λ same. apart.0 (subst (Has xs) (sym (e ∙ same)) h))) (λ (g : Has ys j). (inr (less.3 j g).0, (less.3 j g).1)) at,
    )

abbrev pub AreBetween : (from to : ℕ) → List ℕ → Type 0
AreBetween from to xs = (k : ℕ) → Has xs k → (from ≤ k) × (k < to)

-- there are no more of them than numbers between
pub at_most : (from n : ℕ) (xs : List ℕ) → AreDistinct xs → AreBetween from (from + n) xs → length xs ≤ n
at_most from zero [] apart between = omega arith
at_most from zero (x ∷ xs) apart between = let b = between x (inl refl) in let low = b.0 in let high = b.1 in absurd (omega arith)
at_most from (suc n) xs apart between = ⊎_elim
    (λ (h : Has xs (from + n)).
    let less = taken_out xs (from + n) apart h in
    let count = less.1 in
    let few = at_most from n less.0 less.2
    (λ j g. let b = between j (less.3 j g).0 in let low = b.0 in let high = b.1 in let other = (less.3 j g).1 in (omega arith, omega arith)) in omega arith)
    (λ (none : Has xs (from + n) → ⊥). let few = at_most from n xs apart
    (λ j g. let b = between j g in let low = b.0 in let high = b.1 in let other : j ≢ from + n = λ same. none (subst (Has xs) same g) in (omega arith, omega arith)) in omega arith)
    (has_or_not xs (from + n))

-- where they are as many as the numbers between, each of these stands there
pub each_between : (from n : ℕ) (xs : List ℕ) → AreDistinct xs → AreBetween from (from + n) xs → length xs ≡ n → (k : ℕ) → from ≤ k → k < from + n → Has xs k
each_between from n xs apart between count k low high = ⊎_elim (λ (h : Has xs k). h)
    (λ (none : Has xs k → ⊥).
    let more = at_most from n (k ∷ xs) (none, apart) (λ j g. ⊎_elim (λ (e : k ≡ j). (omega arith, omega arith)) (λ (h : Has xs j). between j h) g) in absurd (omega arith))
    (has_or_not xs k)
