-- The least number that passes a test, among the entries of a sorted list.
use Rattle.std.proofs.Common.{◌≡◌, ℕ, ◌<◌, ◌≤◌, Bool, true, false, cond, ◌&&◌, List, [], ◌∷◌, Option, Some, None, option_map, refl, sym, ap, subst, ◌∙◌, arith, inl, inr}
use Rattle.std.specs.Prelude.{find}
use Rattle.std.specs.declared.cmp.Ordering.TheVariants.{Less}
use Rattle.std.specs.Ordering.{eq_by_cmp}
use Rattle.std.specs.Cmp.{eq_by_cmp_equiv}
use Rattle.std.proofs.lemmas.Bool.{cases_lt}
use Rattle.std.specs.List.Sorted.{IsStrictlySortedBy}
use Rattle.std.specs.Map.{lookup, keys_of}
use Rattle.std.specs.BTreeMap.{is_at}
use Rattle.std.proofs.lemmas.Map.{lookup-none}
use Rattle.std.proofs.lemmas.Map.Entries.{none_below_head, none_past_head}
use Rattle.std.proofs.lemmas.Map.Keys.{IsDistinct-from_sorted}
use Rattle.kfs_model.specs.Table.{Order}
use Rattle.kfs_model.specs.Check.{is_some_and}
use Rattle.kfs_lease.proofs.RowsLemmas.RowTables.{as_equal}

-- the number passes, and no lesser one does; none where no number does
abbrev pub IsLeast : (ℕ → Bool) → Option ℕ → Type 0
IsLeast p None = (c : ℕ) → p c ≡ false
IsLeast p (Some c) = (p c ≡ true) × ((d : ℕ) → p d ≡ true → c ≤ d)

pub one_least : (p : ℕ → Bool) (a b : Option ℕ) → IsLeast p a → IsLeast p b → a ≡ b
one_least p None None a b = refl
one_least p None (Some d) a b = let never : true ≡ false = sym b.0 ∙ a d in cc
one_least p (Some c) None a b = let never : true ≡ false = sym a.0 ∙ b c in cc
one_least p (Some c) (Some d) a b =
    let first : c ≤ d = a.1 d b.0 in
    let second : d ≤ c = b.1 c a.0 in
    let same : c ≡ d = omega arith in
    ap Some same

pub least_alike : (p q : ℕ → Bool) → ((c : ℕ) → q c ≡ p c) → (o : Option ℕ) → IsLeast p o → IsLeast q o
least_alike p q same None least = λ c. same c ∙ least c
least_alike p q same (Some c) least = (same c ∙ least.0, λ d is. least.1 d (sym (same d) ∙ is))

-- a line of keys that rises with its numbers
pub record IsLine (R : Order (ℕ × ℕ)) (line : ℕ → ℕ × ℕ) (part : ℕ × ℕ → ℕ) (on : ℕ × ℕ → Bool) : Type 0 where
  pub within : (c : ℕ) → on (line c) ≡ true
  pub again : (c : ℕ) → part (line c) ≡ c
  pub back : (k : ℕ × ℕ) → on k ≡ true → line (part k) ≡ k
  pub rising : (c d : ℕ) → c < d → R.compare (line c) (line d) ≡ Less

module _ {X : Type 0} (R : Order (ℕ × ℕ)) (line : ℕ → ℕ × ℕ) (part : ℕ × ℕ → ℕ) (on : ℕ × ℕ → Bool) (bars : ℕ → X → Bool) where
  -- whether the entry at the number's key passes
  abbrev pub passes : List ((ℕ × ℕ) × X) → ℕ → Bool
  passes es c = is_some_and (lookup (is_at (R.compare (line c))) es) (bars c)

  abbrev pub first_passing : List ((ℕ × ℕ) × X) → Option ℕ
  first_passing es = option_map (λ e. part e.0) (find (λ e. on e.0 && bars (part e.0) e.1) es)

  module _ (is_line : IsLine R line part on) where
    at_head : (e : (ℕ × ℕ) × X) (es : List ((ℕ × ℕ) × X)) → on e.0 ≡ true → passes (e ∷ es) (part e.0) ≡ bars (part e.0) e.1
    at_head e es is =
        let tied : eq_by_cmp R.compare (line (part e.0)) e.0 ≡ true = ap (λ k. eq_by_cmp R.compare k e.0) (is_line.back e.0 is) ∙ (eq_by_cmp_equiv R.total).refl e.0 in
        ap (λ b. is_some_and (cond b (Some e.1) (lookup (is_at (R.compare (line (part e.0)))) es)) (bars (part e.0))) tied

    before_head : (e : (ℕ × ℕ) × X) (es : List ((ℕ × ℕ) × X)) → IsStrictlySortedBy R.compare (keys_of (e ∷ es)) → on e.0 ≡ true → (d : ℕ) → d < part e.0 → passes (e ∷ es) d ≡ false
    before_head e es sorted is d less =
        let below : R.compare (line d) e.0 ≡ Less = ap (R.compare (line d)) (sym (is_line.back e.0 is)) ∙ is_line.rising d (part e.0) less in
        ap (λ o. is_some_and o (bars d)) (lookup-none (is_at (R.compare (line d))) (e ∷ es) (none_below_head R.total (line d) e es sorted below))

    past_head : (e : (ℕ × ℕ) × X) (es : List ((ℕ × ℕ) × X)) → IsStrictlySortedBy R.compare (keys_of (e ∷ es)) → (on e.0 && bars (part e.0) e.1) ≡ false → (c : ℕ) → passes (e ∷ es) c ≡ passes es c
    past_head e es sorted fails c = at (eq_by_cmp R.compare (line c) e.0) refl
      where
        at : (b : Bool) → eq_by_cmp R.compare (line c) e.0 ≡ b → passes (e ∷ es) c ≡ passes es c
        at false other = ap (λ b. is_some_and (cond b (Some e.1) (lookup (is_at (R.compare (line c))) es)) (bars c)) other
        at true tied =
            let same : line c ≡ e.0 = R.exact (line c) e.0 (as_equal (R.compare (line c) e.0) tied) in
            let is_on : on e.0 ≡ true = ap on (sym same) ∙ is_line.within c in
            let number : part e.0 ≡ c = ap part (sym same) ∙ is_line.again c in
            let fails_here : bars c e.1 ≡ false = ap (λ n. bars n e.1) (sym number) ∙ sym (ap (λ b. b && bars (part e.0) e.1) is_on) ∙ fails in
            let gone = lookup-none (is_at (R.compare (line c))) es (none_past_head (eq_by_cmp_equiv R.total) (line c) e es (IsDistinct-from_sorted R.compare (keys_of (e ∷ es)) sorted) tied) in
            ap (λ b. is_some_and (cond b (Some e.1) (lookup (is_at (R.compare (line c))) es)) (bars c)) tied ∙ fails_here ∙ sym (ap (λ o. is_some_and o (bars c)) gone)

    pub first_is_least : (es : List ((ℕ × ℕ) × X)) → IsStrictlySortedBy R.compare (keys_of es) → IsLeast (passes es) (first_passing es)
    unfolding IsStrictlySortedBy
    first_is_least [] sorted = λ c. refl
    first_is_least (e ∷ es) sorted = at (on e.0) (bars (part e.0) e.1) refl refl (first_is_least es sorted.1)
      where
        behind : (on e.0 && bars (part e.0) e.1) ≡ false → IsLeast (passes es) (first_passing es)
            → IsLeast (passes (e ∷ es)) (option_map (λ e. part e.0) (cond (on e.0 && bars (part e.0) e.1) (Some e) (find (λ e. on e.0 && bars (part e.0) e.1) es)))
        behind fails rest =
            subst (λ b. IsLeast (passes (e ∷ es)) (option_map (λ e. part e.0) (cond b (Some e) (find (λ e. on e.0 && bars (part e.0) e.1) es)))) (sym fails)
            (least_alike (passes es) (passes (e ∷ es)) (past_head e es sorted fails) (first_passing es) rest)

        at : (a b : Bool) → on e.0 ≡ a → bars (part e.0) e.1 ≡ b → IsLeast (passes es) (first_passing es)
            → IsLeast (passes (e ∷ es)) (option_map (λ e. part e.0) (cond (on e.0 && bars (part e.0) e.1) (Some e) (find (λ e. on e.0 && bars (part e.0) e.1) es)))
        at true true is passing rest =
            let both : (on e.0 && bars (part e.0) e.1) ≡ true = ap (λ b. b && bars (part e.0) e.1) is ∙ passing in
            subst (λ b. IsLeast (passes (e ∷ es)) (option_map (λ e. part e.0) (cond b (Some e) (find (λ e. on e.0 && bars (part e.0) e.1) es)))) (sym both)
            (at_head e es is ∙ passing, not_before)
          where
            not_before : (d : ℕ) → passes (e ∷ es) d ≡ true → part e.0 ≤ d
            not_before d passed = elim (cases_lt d (part e.0)) [
              | inl less ↦ let never : true ≡ false = sym passed ∙ before_head e es sorted is d less in cc
              | inr others ↦ others
            ]
        at true false is failing rest = behind (ap (λ b. b && bars (part e.0) e.1) is ∙ failing) rest
        at false b is other rest = behind (ap (λ b. b && bars (part e.0) e.1) is) rest
