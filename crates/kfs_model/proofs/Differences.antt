-- Rows of a plan differ nowhere from the right list exactly where they are the differences.
use Rattle.std.proofs.Common.{◌≡◌, ◌≢◌, ℕ, ◌+◌, Bool, true, false, cond, not, T, List, [], ◌∷◌, Option, Some, None, option_map, refl, sym, ap, subst, ◌∙◌}
use Rattle.std.specs.Bool.{Decides, passes}
use Rattle.std.specs.FinMap.Entries.{same_entries}
use Rattle.kfs_model.specs.Table.{Order, Table, get, retain, united, option_or}
use Rattle.kfs_model.proofs.TableLaws.{get-retain, get-mapped, get-united}
use Rattle.kfs_model.specs.Plan.{AreDifferences}
use Rattle.kfs_model.specs.FirstWrong.{same_option, first_difference, differences}
use Rattle.kfs_model.proofs.Exact.{IsExact, options-exact}

later_none : (o : Option ℕ) → option_map (λ i. i + 1) o ≡ None → o ≡ None
later_none None e = refl
later_none (Some i) e = cc

none_parts : (b : Bool) (o : Option ℕ) → ◌≡◌ {A = Option ℕ} (elim b [ true ↦ option_map (λ i. i + 1) o | false ↦ Some 0 ]) None → (b ≡ true) × (o ≡ None)
none_parts true o e = (refl, later_none o e)
none_parts false o e = (cc, cc)

none_from : (b : Bool) (o : Option ℕ) → b ≡ true → o ≡ None → ◌≡◌ {A = Option ℕ} (elim b [ true ↦ option_map (λ i. i + 1) o | false ↦ Some 0 ]) None
none_from true o e n = ap (option_map (λ i. i + 1)) n
none_from false o e n = cc

-- two lists differ nowhere exactly where they are equal
module _ {X : Type 0} (same : X → X → Bool) (exact : IsExact same) where
  pub equal_from_none : (xs ys : List X) → first_difference same xs ys ≡ None → xs ≡ ys
  equal_from_none [] [] e = refl
  equal_from_none [] (y ∷ ys) e = cc
  equal_from_none (x ∷ xs) [] e = cc
  equal_from_none (x ∷ xs) (y ∷ ys) e =
      let parts = none_parts (same x y) (first_difference same xs ys) e in
      let rest = equal_from_none xs ys parts.1 in
      λ i. (exact.decides x y).0 parts.0 i ∷ rest i

  none_itself : (xs : List X) → first_difference same xs xs ≡ None
  none_itself [] = refl
  none_itself (x ∷ xs) = none_from (same x x) (first_difference same xs xs) ((exact.decides x x).1 refl) (none_itself xs)

  pub none_from_equal : (xs ys : List X) → xs ≡ ys → first_difference same xs ys ≡ None
  none_from_equal xs ys e = subst (λ ys. first_difference same xs ys ≡ None) e (none_itself xs)

is_true : (b : Bool) → T b → b ≡ true
is_true true t = refl
is_true false t = absurd t

-- what the table of differences has at a key
module _ {X Y : Type 0} (same : X → X → Bool) (now : Option X → Y) where
  kept : (b a : Option X) → option_map (λ (_ : X). now a) (cond (not (same_option same b a)) (option_or a b) None) ≡ cond (same_option same b a) None (Some (now a))
  kept None None = refl
  kept None (Some y) = refl
  kept (Some x) None = refl
  kept (Some x) (Some y) = elim (same x y) as (λ t. option_map (λ (_ : X). now (Some y)) (cond (not t) (Some y) None) ≡ cond t None (Some (now (Some y)))) [ true ↦ refl | false ↦ refl ]

module _ {K X Y : Type 0} {R : Order K} (same : X → X → Bool) (now : Option X → Y) where
  pub get-differences : (before after : Table R X) (key : K) → get (differences same now before after) key ≡ cond (same_option same (get before key) (get after key)) None (Some (now (get after key)))
  get-differences before after key =
      get-mapped (λ key _. now (get after key)) (retain (λ key. not (same_option same (get before key) (get after key))) (united before after)) key
      ∙ ap (option_map (λ (_ : X). now (get after key))) (get-retain (λ key. not (same_option same (get before key) (get after key))) (united before after) key ∙ ap (λ o. cond (not (same_option same (get before key) (get after key))) o None) (get-united before after key))
      ∙ kept same now (get before key) (get after key)

module _ {X Y : Type 0} (same : X → X → Bool) (exact : IsExact same) (now : Option X → Y) where
  at_same : (b a : Option X) → b ≡ a → cond (same_option same b a) None (Some (now a)) ≡ None
  at_same b a e = ap (λ t. cond t None (Some (now a))) (((options-exact same exact).decides b a).1 e)

  at_other : (b a : Option X) → b ≢ a → cond (same_option same b a) None (Some (now a)) ≡ Some (now a)
  at_other b a apart = elim (same_option same b a) as (λ t. (t ≡ true → b ≡ a) → cond t None (Some (now a)) ≡ Some (now a)) [ true ↦ λ h. absurd (apart (h refl)) | false ↦ λ h. refl ] (((options-exact same exact).decides b a).0)

  either : (b a : Option X) (o : Option Y) → (b ≢ a → o ≡ Some (now a)) → (b ≡ a → o ≡ None) → o ≡ cond (same_option same b a) None (Some (now a))
  either b a o other alike =
      elim (same_option same b a) as (λ t. Decides t (b ≡ a) → o ≡ cond t None (Some (now a))) [
        | true ↦ λ h. alike (h.0 refl)
        | false ↦ λ h. other (λ e. cc (h.1 e))
      ] ((options-exact same exact).decides b a)

-- the entries of the table of differences are the rows that the plan is to have, and no others are
module _ {K X Y : Type 0} {R : Order K} (same : X → X → Bool) (exact : IsExact same) (now : Option X → Y) where
  pub differences_are : (before after : Table R X) → AreDifferences R now (get before) (get after) (differences same now before after).entries
  unfolding get
  differences_are before after = record {
    ascending = is_true _ (differences same now before after).sorted;
    changed = λ key apart. get-differences same now before after key ∙ at_other same exact now _ _ apart;
    unchanged = λ key e. get-differences same now before after key ∙ at_same same exact now _ _ e;
  }

  pub differences_only : (before after : Table R X) (rows : List (K × Y)) → AreDifferences R now (get before) (get after) rows → rows ≡ (differences same now before after).entries
  unfolding get
  differences_only before after rows h =
      same_entries R.compare R.total R.exact rows (differences same now before after).entries (passes _ h.ascending) (differences same now before after).sorted
      (λ key. either same exact now (get before key) (get after key) _ (h.changed key) (h.unchanged key) ∙ sym (get-differences same now before after key))
