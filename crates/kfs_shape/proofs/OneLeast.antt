-- Two lists of tests fail first at one number where each holds as far as the other one does.
use Rattle.std.proofs.Common.{◌≡◌, ℕ, ◌<◌, ◌≤◌, Bool, true, false, cond, List, [], ◌∷◌, map, ⊎_elim, Option, Some, None, refl, ap, arith}
use Rattle.std.specs.List.{AllByRecursion}
use Rattle.std.proofs.lemmas.Bool.{cases_lt}
use Rattle.kfs_model.specs.Device.Rules.{Test, test}
use Rattle.kfs_model.specs.Device.Finding.{least_of, least_failed}

-- no number up to this one
abbrev pub Past : ℕ → Option ℕ → Type 0
Past n None = Unit {0}
Past n (Some m) = n < m

same_past : (a b : Option ℕ) → ((n : ℕ) → Past n a → Past n b) → ((n : ℕ) → Past n b → Past n a) → a ≡ b
same_past None None there back = refl
same_past None (Some m) there back = let past : m < m = there m tt in absurd (omega arith)
same_past (Some m) None there back = let past : m < m = back m tt in absurd (omega arith)
same_past (Some m) (Some k) there back =
    ⊎_elim
    (λ below. let past : m < m = back m below in absurd (omega arith))
    (λ above. ⊎_elim (λ over. let past : k < k = there k over in absurd (omega arith)) (λ under. let same : m ≡ k = omega arith in ap Some same) (cases_lt k m))
    (cases_lt m k)

past_least : (n m : ℕ) (o : Option ℕ) → n < m → Past n o → Past n (Some (least_of m o))
past_least n m None below past = below
past_least n m (Some k) below past = grind (arith, below, past)

least_past : (n m : ℕ) (o : Option ℕ) → Past n (Some (least_of m o)) → (n < m) × Past n o
least_past n m None past = (past, tt)
least_past n m (Some k) past = (grind (arith, past), grind (arith, past))

module _ {X : Type 0} (number : X → ℕ) where
  abbrev pub tests : (X → Bool) → List X → List Test
  tests holds es = map (λ e. test (holds e) (number e)) es

  -- the tests with numbers up to this one hold
  abbrev pub Clean : (X → Bool) → ℕ → List X → Type 0
  Clean holds n es = AllByRecursion (λ e. number e ≤ n → holds e ≡ true) es

  pub clean_past : (holds : X → Bool) (n : ℕ) (es : List X) → Clean holds n es → Past n (least_failed (tests holds es))
  clean_past holds n [] clean = tt
  clean_past holds n (e ∷ es) clean = at (holds e) refl (clean_past holds n es clean.1)
    where
      at : (b : Bool) → holds e ≡ b → Past n (least_failed (tests holds es)) → Past n (cond b (least_failed (tests holds es)) (Some (least_of (number e) (least_failed (tests holds es)))))
      at true is rest = rest
      at false is rest =
          ⊎_elim (λ above. past_least n (number e) _ above rest) (λ below. let good = clean.0 below in cc) (cases_lt n (number e))

  pub past_clean : (holds : X → Bool) (n : ℕ) (es : List X) → Past n (least_failed (tests holds es)) → Clean holds n es
  past_clean holds n [] past = tt
  past_clean holds n (e ∷ es) past = at (holds e) refl (past_clean holds n es) past
    where
      at : (b : Bool) → holds e ≡ b → (Past n (least_failed (tests holds es)) → Clean holds n es) → Past n (cond b (least_failed (tests holds es)) (Some (least_of (number e) (least_failed (tests holds es))))) → Clean holds n (e ∷ es)
      at true is behind rest = (λ below. is, behind rest)
      at false is behind rest = let (above, later) = least_past n (number e) _ rest in (λ below. absurd (omega arith), behind later)

  pub same_least : (one two : X → Bool) (es : List X) → ((n : ℕ) → Clean one n es → Clean two n es) → ((n : ℕ) → Clean two n es → Clean one n es) → least_failed (tests one es) ≡ least_failed (tests two es)
  same_least one two es there back =
      same_past _ _
      (λ n past. clean_past two n es (there n (past_clean one n es past)))
      (λ n past. clean_past one n es (back n (past_clean two n es past)))
