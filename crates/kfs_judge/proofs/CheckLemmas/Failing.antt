-- The first failing check, one check at a time and one group of checks after another.
use Rattle.std.specs.Prelude.{◌≡◌, List, [], ◌∷◌, ◌++◌, Option, Some, None, refl}
use Rattle.std.proofs.Common.{ap, sym, ◌∙◌}
use Rattle.kfs_model.specs.Check.{EntryContext, Check, Reason, fault, first_failing}

module _ (p : EntryContext) where
  by_fault : (check : Check) (checks : List Check) (found : Option Reason) → fault p check ≡ found → first_failing p (check ∷ checks) ≡ elim found [ None ↦ first_failing p checks | Some reason ↦ Some reason ]
  unfolding first_failing
  by_fault check checks found is = ap (λ (f : Option Reason). elim f as (λ _. Option Reason) [ None ↦ first_failing p checks | Some reason ↦ Some reason ]) is

  pub failing-passes : (check : Check) (checks : List Check) → fault p check ≡ None → first_failing p (check ∷ checks) ≡ first_failing p checks
  failing-passes check checks is = by_fault check checks None is

  pub failing-fails : (check : Check) (checks : List Check) (reason : Reason) → fault p check ≡ Some reason → first_failing p (check ∷ checks) ≡ Some reason
  failing-fails check checks reason is = by_fault check checks (Some reason) is

  pub failing-none : first_failing p [] ≡ None
  unfolding first_failing
  failing-none = refl

  -- ---- two groups of checks

  -- the first group's fault, or else the second's
  pub failing-groups : (front back : List Check) → first_failing p (front ++ back) ≡ elim (first_failing p front) [ None ↦ first_failing p back | Some reason ↦ Some reason ]
  unfolding first_failing
  failing-groups [] back = refl
  failing-groups (check ∷ front) back = by_first (failing-groups front back) (fault p check) refl
    where
      or_behind : Option Reason → Option Reason
      or_behind found = elim found [ None ↦ first_failing p back | Some reason ↦ Some reason ]

      by_first : first_failing p (front ++ back) ≡ or_behind (first_failing p front) → (found : Option Reason) → fault p check ≡ found → first_failing p (check ∷ (front ++ back)) ≡ or_behind (first_failing p (check ∷ front))
      by_first rest None is = failing-passes check (front ++ back) is ∙ rest ∙ ap or_behind (sym (failing-passes check front is))
      by_first rest (Some reason) is = failing-fails check (front ++ back) reason is ∙ ap or_behind (sym (failing-fails check front reason is))

  group_decides : (front back : List Check) (found : Option Reason) → first_failing p front ≡ found → first_failing p (front ++ back) ≡ elim found [ None ↦ first_failing p back | Some reason ↦ Some reason ]
  group_decides front back found is = failing-groups front back ∙ ap (λ (f : Option Reason). elim f as (λ _. Option Reason) [ None ↦ first_failing p back | Some reason ↦ Some reason ]) is

  pub failing-in_back : (front back : List Check) → first_failing p front ≡ None → first_failing p (front ++ back) ≡ first_failing p back
  failing-in_back front back is = group_decides front back None is

  pub failing-in_front : (front back : List Check) (reason : Reason) → first_failing p front ≡ Some reason → first_failing p (front ++ back) ≡ Some reason
  failing-in_front front back reason is = group_decides front back (Some reason) is
