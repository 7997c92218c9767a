-- What stands at a key of each table that the operations make, and that tables which answer alike are equal.
use Rattle.std.specs.Prelude.{◌≡◌, Bool, true, false, cond, not, T, List, [], ◌∷◌, refl, Option, Some, None, option_map}
use Rattle.std.specs.declared.cmp.Ordering.{Ordering}
use Rattle.std.specs.declared.cmp.Ordering.TheVariants.{Less, Equal, Greater}
use Rattle.std.specs.Ordering.{is_eq, eq_by_cmp}
use Rattle.std.specs.Cmp.{eq_by_cmp_equiv}
use Rattle.std.specs.FinMap.Entries.{find, is_sorted, find-put, find-where_key, same_entries}
use mathlib.Core.Path.{sym, ap, ◌∙◌}
use mathlib.Core.HLevel.{Σ_prop_path}
use lib.Dec.{T_prop}
use Rattle.kfs_model.specs.Table.{Order, Table, option_or, get, insert, retain, remove, changed, changed_entries, mapped, united_entries, united}

module _ {K X : Type 0} {R : Order K} where
  pub same_entries_table : (s t : Table R X) → s.entries ≡ t.entries → s ≡ t
  same_entries_table s t e =
      let both : ◌≡◌ {A = (es : List (K × X)) × T (is_sorted R.compare es)} (s.entries, s.sorted) (t.entries, t.sorted) = Σ_prop_path (λ es. T_prop _) e in
      λ i. record { entries = (both i).0; sorted = (both i).1 }

  pub same_table : (s t : Table R X) → ((k : K) → get s k ≡ get t k) → s ≡ t
  unfolding get
  same_table s t alike = same_entries_table s t (same_entries R.compare R.total R.exact s.entries t.entries s.sorted t.sorted alike)

  pub get-insert : (t : Table R X) (k : K) (v : X) (q : K) → get (insert t k v) q ≡ cond (eq_by_cmp R.compare q k) (Some v) (get t q)
  unfolding get insert
  get-insert t k v q = find-put R.compare R.total q k v t.entries

  pub get-retain : (p : K → Bool) (t : Table R X) (q : K) → get (retain p t) q ≡ cond (p q) (get t q) None
  unfolding get retain
  get-retain p t q = find-where_key R.compare p q (λ x e. ap p (sym (R.exact q x e))) t.entries

  pub get-remove : (t : Table R X) (k q : K) → get (remove t k) q ≡ cond (not (eq_by_cmp R.compare k q)) (get t q) None
  unfolding remove
  get-remove t k q = get-retain (λ j. not (eq_by_cmp R.compare k j)) t q

  pub get-changed : (t : Table R X) (k : K) (w : Option X) (q : K) → get (changed t k w) q ≡ cond (eq_by_cmp R.compare q k) w (get t q)
  unfolding changed
  get-changed t k None q = get-remove t k q ∙ turned (eq_by_cmp R.compare k q) (eq_by_cmp R.compare q k) ((eq_by_cmp_equiv R.total).symm k q)
    where
      turned : (a b : Bool) → a ≡ b → cond (not a) (get t q) None ≡ cond b None (get t q)
      turned a true e = ap (λ x. cond (not x) (get t q) None) e
      turned a false e = ap (λ x. cond (not x) (get t q) None) e
  get-changed t k (Some v) q = get-insert t k v q

module _ {K X Y : Type 0} (R : Order K) where
  find-changed : (f : K → X → Y) (q : K) (es : List (K × X)) → find R.compare q (changed_entries f es) ≡ option_map (f q) (find R.compare q es)
  find-changed f q [] = refl
  find-changed f q (e ∷ es) = at_first (find-changed f q es) (R.compare q e.0) refl
    where
      at_first : find R.compare q (changed_entries f es) ≡ option_map (f q) (find R.compare q es) → (o : Ordering) → R.compare q e.0 ≡ o → cond (is_eq o) (Some (f e.0 e.1)) (find R.compare q (changed_entries f es)) ≡ option_map (f q) (cond (is_eq o) (Some e.1) (find R.compare q es))
      at_first rest Less p = rest
      at_first rest Equal p = ap (λ k. Some (f k e.1)) (sym (R.exact q e.0 p))
      at_first rest Greater p = rest

module _ {K X Y : Type 0} {R : Order K} where
  pub get-mapped : (f : K → X → Y) (t : Table R X) (q : K) → get (mapped f t) q ≡ option_map (f q) (get t q)
  unfolding get mapped
  get-mapped f t q = find-changed R f q t.entries

module _ {K X : Type 0} (R : Order K) where
  find-united : (old new : List (K × X)) (q : K) → find R.compare q (united_entries R old new) ≡ option_or (find R.compare q new) (find R.compare q old)
  find-united old [] q = refl
  find-united old (e ∷ es) q =
      find-put R.compare R.total q e.0 e.1 (united_entries R old es)
      ∙ elim (eq_by_cmp R.compare q e.0) as (λ b. cond b (Some e.1) (find R.compare q (united_entries R old es)) ≡ option_or (cond b (Some e.1) (find R.compare q es)) (find R.compare q old)) [
        | true ↦ refl
        | false ↦ find-united old es q
      ]

module _ {K X : Type 0} {R : Order K} where
  pub get-united : (old new : Table R X) (q : K) → get (united old new) q ≡ option_or (get new q) (get old q)
  unfolding get united
  get-united old new q = find-united R old.entries new.entries q
