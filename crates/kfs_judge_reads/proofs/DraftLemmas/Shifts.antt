-- The change of a count, after that of one directory is set.
use Rattle.std.specs.Prelude.{◌≡◌, ℕ, ◌==◌, Bool, true, false, cond, ℤ, pos, Option, None, Some, unwrap_or, if◌then◌else◌, refl}
use Rattle.std.specs.Cmp.{nat_eq_equiv}
use Rattle.std.specs.Ordering.{nat_cmp, eq_by_cmp}
use Rattle.std.proofs.Common.{ap, sym, ◌∙◌}
use Rattle.std.proofs.lemmas.Bool.{eqb-true}
use Rattle.kfs_judge_reads.specs.Draft.Shifts.{shift_beside}
use Rattle.kfs_judge_reads.proofs.DraftLemmas.Overlays.{number_tie, put_read}

module _ (d dir : ℕ) (by : ℤ) (first : Option (ℕ × ℤ)) where
  turned : (rest : ℤ) → (if dir == d then by else rest) ≡ (if d == dir then by else rest)
  turned rest = ap (λ test. if test then by else rest) (nat_eq_equiv.symm dir d)

  -- there was no first change
  pub first_set : (rest : ℤ) → first ≡ None → shift_beside (Some (dir, by)) d rest ≡ (if d == dir then by else shift_beside first d rest)
  first_set rest none = turned rest ∙ ap (λ f. if d == dir then by else shift_beside f d rest) (sym none)

  module _ (number : ℕ) (old : ℤ) (is : first ≡ Some (number, old)) where
    -- the first change was of the same directory
    pub first_replaced : (rest : ℤ) → number ≡ dir → shift_beside (Some (dir, by)) d rest ≡ (if d == dir then by else shift_beside first d rest)
    first_replaced rest same = turned rest ∙ at (d == dir) refl ∙ ap (λ f. if d == dir then by else shift_beside f d rest) (sym is)
      where
        at : (test : Bool) → (d == dir) ≡ test → (if test then by else rest) ≡ (if test then by else (if number == d then old else rest))
        at true here = refl
        at false other = ap (λ test. if test then old else rest) (sym (ap (λ k. k == d) same ∙ nat_eq_equiv.symm dir d ∙ other))

    -- the first change was of another directory
    pub other_set : (now there : Option ℤ) → (number ≡ dir → ⊥) → now ≡ cond (eq_by_cmp nat_cmp dir d) (Some by) there
        → shift_beside first d (unwrap_or now (pos 0)) ≡ (if d == dir then by else shift_beside first d (unwrap_or there (pos 0)))
    other_set now there apart puts =
        ap (λ f. shift_beside f d (unwrap_or now (pos 0))) is
        ∙ ap (λ rest. if number == d then old else rest) (put_read (λ o. unwrap_or o (pos 0)) now there _ (d == dir) by puts (number_tie dir d))
        ∙ at (number == d) (d == dir) refl refl
        ∙ ap (λ f. if d == dir then by else shift_beside f d (unwrap_or there (pos 0))) (sym is)
      where
        at : (a b : Bool) → (number == d) ≡ a → (d == dir) ≡ b → (if a then old else (if b then by else unwrap_or there (pos 0))) ≡ (if b then by else (if a then old else unwrap_or there (pos 0)))
        at true true one other = absurd (apart (eqb-true number d one ∙ eqb-true d dir other))
        at true false one other = refl
        at false true one other = refl
        at false false one other = refl
