-- What names lead to and how many they are, after one is put or taken away.
use Rattle.std.proofs.Common.{◌≡◌, ℕ, ◌+◌, ◌≤◌, Bool, true, false, cond, not, ◌==◌, ltb, List, [], ◌∷◌, Option, Some, None, option_map, count_by, find, refl, sym, ap, subst, ◌∙◌, arith, lt-ltb, ltb-true, eqb-true, eq-eqb, zero-add, ◌<◌}
use Rattle.std.specs.Bool.{Decides, one_answer}
use Rattle.std.specs.declared.cmp.Ordering.{Ordering}
use Rattle.std.specs.declared.cmp.Ordering.TheVariants.{Less, Equal, Greater}
use Rattle.std.specs.Ordering.{is_eq, eq_by_cmp}
use Rattle.std.specs.Cmp.{tied_itself}
use Rattle.std.specs.List.{list_any}
use Rattle.std.specs.FinMap.Entries as Entries
use Rattle.std.proofs.lemmas.Bool.{eqb-false}
use Rattle.std.proofs.lemmas.Bool.Decides.{Decides-eqb}
use Rattle.kfs_model.specs.Table.{Order, Table, numbers, get, insert, remove}
use Rattle.kfs_model.proofs.TableLaws.{get-insert, get-remove}
use Rattle.kfs_model.specs.Tree.{NameTable, name_order, target, name_count, entry_count, is_named}
use Rattle.kfs_model.specs.Sight.{holder}
use Rattle.kfs_model.specs.FirstWrong.{same_place}
use Rattle.kfs_model.proofs.Exact.{places-exact}
use Rattle.kfs_model.proofs.Tables.{found_from_any, any_from_found}
use Rattle.kfs_model.proofs.Counts.{any_counts, counted, count-insert, count-remove, is_tally, tally, any_tally}

-- ---- keys

module _ {K : Type 0} (R : Order K) where
  tie_is : (o : Ordering) → is_eq o ≡ true → o ≡ Equal
  tie_is Less e = cc
  tie_is Equal e = refl
  tie_is Greater e = cc

  pub ties_decide : (x y : K) → Decides (eq_by_cmp R.compare x y) (x ≡ y)
  ties_decide x y = (λ e. R.exact x y (tie_is (R.compare x y) e), λ e. subst (λ z. eq_by_cmp R.compare x z ≡ true) e (ap is_eq (tied_itself R.total x)))

module _ {X : Type 0} where
  pub at_number-insert : (t : Table numbers X) (n : ℕ) (value : X) (k : ℕ) → get (insert t n value) k ≡ cond (k == n) (Some value) (get t k)
  at_number-insert t n value k = get-insert t n value k ∙ ap (λ b. cond b (Some value) (get t k)) (one_answer _ _ (ties_decide numbers k n) (Decides-eqb k n))

pub place_tie : (x y : ℕ × List ℕ) → eq_by_cmp name_order.compare x y ≡ same_place x y
place_tie x y = one_answer _ _ (ties_decide name_order x y) (places-exact.decides x y)

pub place_tie_turned : (x y : ℕ × List ℕ) → eq_by_cmp name_order.compare x y ≡ same_place y x
place_tie_turned x y = one_answer _ _ (ties_decide name_order x y) (λ e. sym ((places-exact.decides y x).0 e), λ e. (places-exact.decides y x).1 (sym e))

cond_not : {X : Type 0} (b : Bool) (x y : X) → cond (not b) x y ≡ cond b y x
cond_not true x y = refl
cond_not false x y = refl

without_old : (new old before value : ℕ) → old ≡ 0 → new + old ≡ before + value → new ≡ before + value
without_old new old before value none is = omega arith

-- ---- what a name leads to

module _ (names : NameTable) (d : ℕ) (m : List ℕ) where
  pub target-insert : (n e : ℕ) (k : List ℕ) → target (insert names (d, m) n) e k ≡ cond (same_place (e, k) (d, m)) (Some n) (target names e k)
  target-insert n e k = get-insert names (d, m) n (e, k) ∙ ap (λ b. cond b (Some n) (target names e k)) (place_tie (e, k) (d, m))

  pub target-remove : (e : ℕ) (k : List ℕ) → target (remove names (d, m)) e k ≡ cond (same_place (e, k) (d, m)) None (target names e k)
  target-remove e k = get-remove names (d, m) (e, k) ∙ ap (λ b. cond (not b) (target names e k) None) (place_tie_turned (d, m) (e, k)) ∙ cond_not _ (target names e k) None

  -- ---- how many they are

  pub name_count-insert : (n k : ℕ) → target names d m ≡ None → name_count (insert names (d, m) n) k ≡ name_count names k + cond (n == k) 1 0
  name_count-insert n k free = without_old _ _ _ _ (ap (counted name_order (λ e. e.1 == k) (d, m)) free) (count-insert name_order (λ e. e.1 == k) names (d, m) n)

  pub entry_count-insert : (n e : ℕ) → target names d m ≡ None → entry_count (insert names (d, m) n) e ≡ entry_count names e + cond (d == e) 1 0
  entry_count-insert n e free = without_old _ _ _ _ (ap (counted name_order (λ x. x.0.0 == e) (d, m)) free) (count-insert name_order (λ x. x.0.0 == e) names (d, m) n)

  pub name_count-remove : (n k : ℕ) → target names d m ≡ Some n → name_count (remove names (d, m)) k + cond (n == k) 1 0 ≡ name_count names k
  name_count-remove n k there = subst (λ o. name_count (remove names (d, m)) k + counted name_order (λ e. e.1 == k) (d, m) o ≡ name_count names k) there (count-remove name_order (λ e. e.1 == k) names (d, m))

  pub entry_count-remove : (n e : ℕ) → target names d m ≡ Some n → entry_count (remove names (d, m)) e + cond (d == e) 1 0 ≡ entry_count names e
  entry_count-remove n e there = subst (λ o. entry_count (remove names (d, m)) e + counted name_order (λ x. x.0.0 == e) (d, m) o ≡ entry_count names e) there (count-remove name_order (λ x. x.0.0 == e) names (d, m))

-- ---- names and their counts

module _ (names : NameTable) where
  pub is_named_counts : (n : ℕ) → is_named names n ≡ ltb 0 (name_count names n)
  is_named_counts n = any_counts (λ e. e.1 == n) names.entries

  some_counts : (test : (ℕ × List ℕ) × ℕ → Bool) → list_any test names.entries ≡ true → 1 ≤ count_by test names.entries
  some_counts test any = ltb-true 0 _ (sym (any_counts test names.entries) ∙ any)

  pub target_is_named : (d : ℕ) (m : List ℕ) (n : ℕ) → target names d m ≡ Some n → 1 ≤ name_count names n
  unfolding get
  target_is_named d m n there = some_counts (λ e. e.1 == n) (any_from_found name_order (λ e. e.1 == n) names.entries (d, m) n there (eq-eqb n n refl))

  pub target_is_entry : (d : ℕ) (m : List ℕ) (n : ℕ) → target names d m ≡ Some n → 1 ≤ entry_count names d
  unfolding get
  target_is_entry d m n there = some_counts (λ e. e.0.0 == d) (any_from_found name_order (λ e. e.0.0 == d) names.entries (d, m) n there (eq-eqb d d refl))

  pub named_has_target : (n : ℕ) → 1 ≤ name_count names n → (d : ℕ) × (m : List ℕ) × (target names d m ≡ Some n)
  unfolding get
  named_has_target n some =
      let any : list_any (λ (e : (ℕ × List ℕ) × ℕ). e.1 == n) names.entries ≡ true = any_counts (λ e. e.1 == n) names.entries ∙ lt-ltb 0 _ some in
      let (key, number, found, same) = found_from_any name_order (λ e. e.1 == n) names.entries names.sorted any in
      (key.0, key.1, found ∙ ap Some (eqb-true number n same))

-- ---- the directory of a node with one name

first_holder : ℕ → List ((ℕ × List ℕ) × ℕ) → Option ℕ
first_holder n es = option_map (λ e. e.0.0) (find (λ e. e.1 == n) es)

no_other : (rest : ℕ) → 1 + rest ≡ 1 → ltb 0 rest ≡ true → ⊥
no_other rest one some = let more : 0 < rest = ltb-true 0 rest some in absurd (omega arith)

holder_only : (n d : ℕ) (m : List ℕ) (es : List ((ℕ × List ℕ) × ℕ)) → tally (λ e. e.1 == n) es ≡ 1 → Entries.find name_order.compare (d, m) es ≡ Some n → first_holder n es ≡ Some d
unfolding first_holder tally
holder_only n d m [] only there = cc
holder_only n d m (e ∷ es) only there = at (e.1 == n) (name_order.compare (d, m) e.0) refl refl only there (holder_only n d m es)
  where
    rest_is_empty : 1 + tally (λ (e : (ℕ × List ℕ) × ℕ). e.1 == n) es ≡ 1 → Entries.find name_order.compare (d, m) es ≡ Some n → ⊥
    rest_is_empty only there = no_other _ only (sym (any_tally (λ e. e.1 == n) es) ∙ any_from_found name_order (λ e. e.1 == n) es (d, m) n there (eq-eqb n n refl))

    at : (b : Bool) (o : Ordering) → (e.1 == n) ≡ b → name_order.compare (d, m) e.0 ≡ o
        → cond b 1 0 + tally (λ e. e.1 == n) es ≡ 1 → cond (is_eq o) (Some e.1) (Entries.find name_order.compare (d, m) es) ≡ Some n
        → (tally (λ e. e.1 == n) es ≡ 1 → Entries.find name_order.compare (d, m) es ≡ Some n → first_holder n es ≡ Some d)
        → option_map (λ e. e.0.0) (cond b (Some e) (find (λ e. e.1 == n) es)) ≡ Some d
    at true Less is tie only there rest = absurd (rest_is_empty only there)
    at true Equal is tie only there rest = ap (λ k. Some k.0) (sym (name_order.exact (d, m) e.0 tie))
    at true Greater is tie only there rest = absurd (rest_is_empty only there)
    at false Less is tie only there rest = rest (sym (zero-add _) ∙ only) there
    at false Equal is tie only there rest = absurd (eqb-false e.1 n is cc)
    at false Greater is tie only there rest = rest (sym (zero-add _) ∙ only) there

pub holder_of_only : (names : NameTable) (n d : ℕ) (m : List ℕ) → name_count names n ≡ 1 → target names d m ≡ Some n → holder names n ≡ Some d
unfolding get first_holder
holder_of_only names n d m only there = holder_only n d m names.entries (sym (is_tally (λ e. e.1 == n) names.entries) ∙ only) there
