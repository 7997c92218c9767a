-- The entries of a table: each is found at its key, and no two have one key.
use Rattle.std.proofs.Common.{◌≡◌, ◌+◌, ◌≤◌, Bool, true, false, cond, T, List, [], ◌∷◌, map, Option, Some, None, count_by, refl, ap, subst, ◌∙◌, arith}
use Rattle.std.specs.Ordering.{is_lt}
use Rattle.std.specs.Cmp.{tied_itself}
use Rattle.std.specs.List.{AllByRecursion}
use Rattle.std.specs.FinMap.Entries.{find, is_sorted, below_all}
use Rattle.kfs_model.specs.Table.{Order, Table, get}
use Rattle.kfs_model.proofs.Tables.{left_part, right_part, find_head, find_behind}
use Rattle.kfs_model.proofs.Counts.{tally, is_tally}
use Rattle.kfs_model.specs.Device.Rules.{Test, with_previous, is_above}
use Rattle.kfs_model.proofs.DeviceLemmas.RulesHold.{AllHold}

truth : (b : Bool) → T b → b ≡ true
truth true t = refl
truth false t = absurd t

module _ {K X : Type 0} (R : Order K) (P : K × X → Type 0) where
  each_found : (es : List (K × X)) → T (is_sorted R.compare es) → ((key : K) (value : X) → find R.compare key es ≡ Some value → P (key, value)) → AllByRecursion P es
  each_found [] sorted each = tt
  each_found (e ∷ es) sorted each = (
    each e.0 e.1 (find_head R e es),
    each_found es (right_part _ _ sorted) (λ key value is. each key value (find_behind R key value e es sorted is)),
  )

  -- what holds of what is found holds of each entry
  pub each_entry : (t : Table R X) → ((key : K) (value : X) → get t key ≡ Some value → P (key, value)) → AllByRecursion P t.entries
  unfolding get
  each_entry t each = each_found t.entries t.sorted each

module _ {K X Z : Type 0} (row : K × X → Z) where
  -- tests of rows that are made of entries
  pub hold_each : (tested : Z → Test) (es : List (K × X)) → AllByRecursion (λ e. (tested (row e)).holds ≡ true) es → AllHold (map tested (map row es))
  hold_each tested [] all = tt
  hold_each tested (e ∷ es) all = (all.0, hold_each tested es all.1)

  pub each_row : (P : Z → Type 0) (es : List (K × X)) → AllByRecursion (λ e. P (row e)) es → AllByRecursion P (map row es)
  each_row P [] all = tt
  each_row P (e ∷ es) all = (all.0, each_row P es all.1)

  module _ (R : Order K) (key : Z → K) (same : (e : K × X) → key (row e) ≡ e.0) (tested : Option Z × Z → Test) (P : K × X → Type 0)
      (says : (previous : Option Z) (e : K × X) → is_above R key (previous, row e) ≡ true → P e → (tested (previous, row e)).holds ≡ true) where
    hold_behind : (previous : K × X) (es : List (K × X)) → T (is_sorted R.compare (previous ∷ es)) → AllByRecursion P es → AllHold (map tested (with_previous (Some (row previous)) (map row es)))
    hold_behind previous [] sorted all = tt
    hold_behind previous (e ∷ es) sorted all =
        let less : is_lt (R.compare previous.0 e.0) ≡ true = truth _ (left_part _ _ (left_part _ _ sorted)) in
        let above : is_lt (R.compare (key (row previous)) (key (row e))) ≡ true = ap (λ k. is_lt (R.compare k (key (row e)))) (same previous) ∙ ap (λ k. is_lt (R.compare previous.0 k)) (same e) ∙ less in
        (says (Some (row previous)) e above all.0, hold_behind e es (right_part _ _ sorted) all.1)

    -- entries ascend, and so do their rows
    pub hold_rising : (es : List (K × X)) → T (is_sorted R.compare es) → AllByRecursion P es → AllHold (map tested (with_previous None (map row es)))
    hold_rising [] sorted all = tt
    hold_rising (e ∷ es) sorted all = (says None e refl all.0, hold_behind e es sorted all.1)

-- ---- how many entries pass a test

module _ {K X : Type 0} (R : Order K) (test : K × X → Bool) (key : K) where
  not_less_than_itself : is_lt (R.compare key key) ≡ true → ⊥
  not_less_than_itself less = let tied = tied_itself R.total key in let no : is_lt (R.compare key key) ≡ false = ap is_lt tied in cc

  none_above : (es : List (K × X)) → T (below_all R.compare key es) → AllByRecursion (λ e. test e ≡ true → e.0 ≡ key) es → tally test es ≡ 0
  unfolding tally
  none_above [] below all = refl
  none_above (e ∷ es) below all = at (test e) refl (none_above es (right_part _ _ below) all.1)
    where
      at : (b : Bool) → test e ≡ b → tally test es ≡ 0 → cond b 1 0 + tally test es ≡ 0
      at true is rest = absurd (not_less_than_itself (subst (λ k. is_lt (R.compare key k) ≡ true) (all.0 is) (truth _ (left_part _ _ below))))
      at false is rest = omega arith

  few : (es : List (K × X)) → T (is_sorted R.compare es) → AllByRecursion (λ e. test e ≡ true → e.0 ≡ key) es → tally test es ≤ 1
  unfolding tally
  few [] sorted all = omega arith
  few (e ∷ es) sorted all = at (test e) refl (few es (right_part _ _ sorted) all.1)
    where
      at : (b : Bool) → test e ≡ b → tally test es ≤ 1 → cond b 1 0 + tally test es ≤ 1
      at true is rest = let none = none_above es (subst (λ k. T (below_all R.compare k es)) (all.0 is) (left_part _ _ sorted)) all.1 in omega arith
      at false is rest = omega arith

module _ {K X Z : Type 0} (row : K × X → Z) (test : Z → Bool) where
  tally_rows : (es : List (K × X)) → tally test (map row es) ≡ tally (λ e. test (row e)) es
  unfolding tally
  tally_rows [] = refl
  tally_rows (e ∷ es) = ap (λ n. cond (test (row e)) 1 0 + n) (tally_rows es)

  -- of the rows of a table no more than one passes a test that only one key passes
  pub few_rows : (R : Order K) (key : K) (t : Table R X) → ((k : K) (value : X) → get t k ≡ Some value → test (row (k, value)) ≡ true → k ≡ key) → count_by test (map row t.entries) ≤ 1
  few_rows R key t only =
      let one = few R (λ e. test (row e)) key t.entries t.sorted (each_entry R (λ e. test (row e) ≡ true → e.0 ≡ key) t only) in
      omega (arith, is_tally test (map row t.entries), tally_rows t.entries)
