-- How many entries of a table pass a test, after an entry is put or taken away.
use Rattle.std.proofs.Common.{◌≡◌, ℕ, ◌+◌, Bool, true, false, cond, not, T, ◌&&◌, ◌||◌, ltb, List, [], ◌∷◌, Option, Some, None, count_by, refl, sym, ap, subst, ◌∙◌, arith, zero-add, lt-ltb}
use Rattle.std.specs.declared.cmp.Ordering.{Ordering}
use Rattle.std.specs.declared.cmp.Ordering.TheVariants.{Less, Equal, Greater}
use Rattle.std.specs.Ordering.{is_eq, is_lt, eq_by_cmp}
use Rattle.std.specs.List.{list_any}
use Rattle.std.specs.FinMap.Entries.{find, put, where_key, is_sorted, below_all, by_order}
use Rattle.std.proofs.lemmas.List.Sums.{sum_by-cons}
use Rattle.kfs_model.specs.Table.{Order, Table, get, insert, remove, retain}
use Rattle.kfs_model.proofs.Tables.{left_part, right_part, find_below}

module _ {X : Type 0} (test : X → Bool) where
  -- `count_by`, from the first entry on
  unfoldable pub tally : List X → ℕ
  tally [] = 0
  tally (x ∷ xs) = cond (test x) 1 0 + tally xs

  pub is_tally : (xs : List X) → count_by test xs ≡ tally xs
  unfolding tally
  is_tally [] = refl
  is_tally (x ∷ xs) = sum_by-cons (λ x. cond (test x) 1 0) x xs ∙ ap (λ n. cond (test x) 1 0 + n) (is_tally xs)

  pub any_tally : (xs : List X) → list_any test xs ≡ ltb 0 (tally xs)
  unfolding tally
  any_tally [] = refl
  any_tally (x ∷ xs) = elim (test x) as (λ b. (b || list_any test xs) ≡ ltb 0 (cond b 1 0 + tally xs)) [
    | true ↦ sym (lt-ltb 0 (1 + tally xs) (omega arith))
    | false ↦ any_tally xs ∙ ap (ltb 0) (sym (zero-add (tally xs)))
  ]

  pub any_counts : (xs : List X) → list_any test xs ≡ ltb 0 (count_by test xs)
  any_counts xs = any_tally xs ∙ ap (ltb 0) (sym (is_tally xs))

pub is_less : (o : Ordering) → T (is_lt o) → o ≡ Less
is_less Less t = refl
is_less Equal t = absurd t
is_less Greater t = absurd t

same_sums : (rest old_e e new_e new : ℕ) → old_e ≡ e → new ≡ new_e → new_e + rest + old_e ≡ e + rest + new
same_sums rest old_e e new_e new old_is new_is = omega arith

turned : (rest old_e e all found : ℕ) → old_e ≡ e → found ≡ 0 → rest + found ≡ all → rest + old_e ≡ e + all
turned rest old_e e all found old_is none is = omega arith

module _ {K X : Type 0} (R : Order K) (test : K × X → Bool) where
  -- what an entry counts, where there is one
  abbrev pub counted : K → Option X → ℕ
  counted key None = 0
  counted key (Some value) = cond (test (key, value)) 1 0

  less_below : (key other : K) (es : List (K × X)) → R.compare key other ≡ Less → T (below_all R.compare other es) → T (below_all R.compare key es)
  less_below key other [] less below = tt
  less_below key other (e ∷ es) less below =
      let head : R.compare key e.0 ≡ Less = R.total.trans key other e.0 less (is_less _ (left_part _ _ below)) in
      subst (λ o. T (is_lt o && below_all R.compare key es)) (sym head) (less_below key other es less (right_part _ _ below))

  find_less : (key : K) (e : K × X) (es : List (K × X)) → R.compare key e.0 ≡ Less → T (is_sorted R.compare (e ∷ es)) → find R.compare key es ≡ None
  find_less key e es less sorted = find_below R key es (less_below key e.0 es less (left_part _ _ sorted))

  at_equal_keys : (value : X) (key other : K) → key ≡ other → counted key (Some value) ≡ counted other (Some value)
  at_equal_keys value key other keys = ap (λ k. counted k (Some value)) keys

  tally_put : (key : K) (value : X) (es : List (K × X)) → T (is_sorted R.compare es) → tally test (put R.compare key value es) + counted key (find R.compare key es) ≡ tally test es + counted key (Some value)
  unfolding tally
  tally_put key value [] sorted = omega arith
  tally_put key value (e ∷ es) sorted = at (R.compare key e.0) refl (tally_put key value es (right_part _ _ sorted))
    where
      at : (o : Ordering) → R.compare key e.0 ≡ o → tally test (put R.compare key value es) + counted key (find R.compare key es) ≡ tally test es + counted key (Some value)
          → tally test (by_order o ((key, value) ∷ e ∷ es) ((e.0, value) ∷ es) (e ∷ put R.compare key value es)) + counted key (cond (is_eq o) (Some e.1) (find R.compare key es)) ≡ tally test (e ∷ es) + counted key (Some value)
      at Less p rest = let none : counted key (find R.compare key es) ≡ 0 = ap (counted key) (find_less key e es p sorted) in omega arith
      at Equal p rest =
          let old = at_equal_keys e.1 key e.0 (R.exact key e.0 p) in
          let new = at_equal_keys value key e.0 (R.exact key e.0 p) in
          same_sums _ _ _ _ _ old new
      at Greater p rest = omega arith

  tally_without : (key : K) (es : List (K × X)) → T (is_sorted R.compare es) → tally test (where_key R.compare (λ j. not (eq_by_cmp R.compare key j)) es) + counted key (find R.compare key es) ≡ tally test es
  unfolding tally
  tally_without key [] sorted = refl
  tally_without key (e ∷ es) sorted = at (R.compare key e.0) refl (tally_without key es (right_part _ _ sorted))
    where
      rest_of : List (K × X)
      rest_of = where_key R.compare (λ j. not (eq_by_cmp R.compare key j)) es

      at : (o : Ordering) → R.compare key e.0 ≡ o → tally test rest_of + counted key (find R.compare key es) ≡ tally test es
          → tally test (cond (not (is_eq o)) (e ∷ rest_of) rest_of) + counted key (cond (is_eq o) (Some e.1) (find R.compare key es)) ≡ tally test (e ∷ es)
      at Less p rest = omega arith
      at Equal p rest =
          let keys = R.exact key e.0 p in
          let none : counted key (find R.compare key es) ≡ 0 = ap (counted key) (ap (λ k. find R.compare k es) keys ∙ find_below R e.0 es (left_part _ _ sorted)) in
          turned _ _ _ _ _ (at_equal_keys e.1 key e.0 keys) none rest
      at Greater p rest = omega arith

  -- the counts after an entry is put, or taken away
  pub count-insert : (t : Table R X) (key : K) (value : X) → count_by test (insert t key value).entries + counted key (get t key) ≡ count_by test t.entries + counted key (Some value)
  unfolding get insert
  count-insert t key value = ap (λ n. n + counted key (get t key)) (is_tally test (insert t key value).entries) ∙ tally_put key value t.entries t.sorted ∙ ap (λ n. n + counted key (Some value)) (sym (is_tally test t.entries))

  pub count-remove : (t : Table R X) (key : K) → count_by test (remove t key).entries + counted key (get t key) ≡ count_by test t.entries
  unfolding get remove retain
  count-remove t key = ap (λ n. n + counted key (get t key)) (is_tally test (remove t key).entries) ∙ tally_without key t.entries t.sorted ∙ sym (is_tally test t.entries)
