-- Lists of numbers, weighed: what stands in a list, and whether it stands there once.
use Rattle.std.proofs.Common.{◌≡◌, ℕ, inl, inr, ◌+◌, ◌<◌, ◌≤◌, cond, eqb, List, [], ◌∷◌, ◌++◌, length, refl, sym, ap, subst, ⊎_elim, arith}
use Rattle.std.proofs.lemmas.Bool.{cases_eq, eq-eqb, ne_eqb}
use Rattle.kfs_shared.specs.Turns.Lists.{Has, AreDistinct}

-- the weights of all, added up
abbrev pub weigh : (ℕ → ℕ) → List ℕ → ℕ
weigh w [] = 0
weigh w (x ∷ xs) = w x + weigh w xs

pub weigh_append : (w : ℕ → ℕ) (xs ys : List ℕ) → weigh w (xs ++ ys) ≡ weigh w xs + weigh w ys
weigh_append w [] ys = omega arith
weigh_append w (x ∷ xs) ys = let e = weigh_append w xs ys in omega arith

pub weigh_length : (xs : List ℕ) → weigh (λ x. 1) xs ≡ length xs
weigh_length [] = refl
weigh_length (x ∷ xs) = let e = weigh_length xs in omega arith

-- 1 at the number k alone
abbrev pub one_at : ℕ → ℕ → ℕ
one_at k x = cond (eqb x k) 1 0

one_same : (k x : ℕ) → x ≡ k → one_at k x ≡ 1
one_same k x is = ap (λ b. cond b 1 0) (eq-eqb x k is)

one_other : (k x : ℕ) → (x ≡ k → ⊥) → one_at k x ≡ 0
one_other k x other = ap (λ b. cond b 1 0) (ne_eqb x k other)

pub has_weigh : (xs : List ℕ) (k : ℕ) → Has xs k → 0 < weigh (one_at k) xs
has_weigh [] k h = absurd h
has_weigh (x ∷ xs) k (inl is) = let e = one_same k x is in omega arith
has_weigh (x ∷ xs) k (inr h) = let e = has_weigh xs k h in omega arith

pub weigh_has : (xs : List ℕ) (k : ℕ) → 0 < weigh (one_at k) xs → Has xs k
weigh_has [] k some = absurd (omega arith)
weigh_has (x ∷ xs) k some = ⊎_elim (λ (is : x ≡ k). inl is) (λ (other : x ≡ k → ⊥). inr (weigh_has xs k (let e = one_other k x other in omega arith))) (cases_eq x k)

none_weighs : (xs : List ℕ) (k : ℕ) → (Has xs k → ⊥) → weigh (one_at k) xs ≡ 0
none_weighs [] k none = refl
none_weighs (x ∷ xs) k none = let a = one_other k x (λ is. none (inl is)) in let b = none_weighs xs k (λ h. none (inr h)) in omega arith

pub distinct_weigh : (xs : List ℕ) → AreDistinct xs → (k : ℕ) → weigh (one_at k) xs ≤ 1
distinct_weigh [] apart k = omega arith
distinct_weigh (x ∷ xs) apart k = ⊎_elim
    (λ (is : x ≡ k). let a = one_same k x is in let b = none_weighs xs k (λ h. apart.0 (subst (Has xs) (sym is) h)) in omega arith)
    (λ (other : x ≡ k → ⊥). let a = one_other k x other in let b = distinct_weigh xs apart.1 k in omega arith) (cases_eq x k)

pub weigh_distinct : (xs : List ℕ) → ((k : ℕ) → weigh (one_at k) xs ≤ 1) → AreDistinct xs
weigh_distinct [] few = tt
weigh_distinct (x ∷ xs) few = (
  λ h. absurd (let a = one_same x x refl in let b = has_weigh xs x h in let c = few x in omega arith),
  weigh_distinct xs (λ k. let c = few k in omega arith),
)
