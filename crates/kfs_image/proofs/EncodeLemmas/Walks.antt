-- A walk over a table: from a start on, entry after entry, or run after run.
use Rattle.std.proofs.Common.{◌≡◌, suc, ◌-◌, Bool, true, false, cond, not, T, ◌&&◌, List, [], ◌∷◌, ◌++◌, length, drop, slice_get, Option, Some, None, refl, sym, ap, subst, ◌∙◌, arith}
use Rattle.std.proofs.lemmas.List.{take-append-drop}
use Rattle.std.specs.Prelude.{is_some}
use Rattle.std.specs.declared.cmp.Ordering.{Ordering}
use Rattle.std.specs.declared.cmp.Ordering.TheVariants.{Less, Equal, Greater}
use Rattle.std.specs.declared.ops.Bound.{Bound}
use Rattle.std.specs.declared.ops.Bound.TheVariants.{Included, Excluded, Unbounded}
use Rattle.std.specs.Ordering.{is_eq, is_lt, is_gt, ordering_reverse}
use Rattle.std.specs.FinMap.Entries.{find, where_key, below_all, is_sorted, is_sorted-where_key, find-where_key, same_entries}
use Rattle.kfs_model.specs.Table.{Order, Table, get}
use Rattle.kfs_maps.specs.Chunks.Starts.{is_from, IsNextEntry, IsNextRun}
use Rattle.kfs_maps.proofs.ChunksLemmas.Runs.{whole_run, run_begins}
use Rattle.kfs_image.specs.Encode.Rows.{entries_from}

greater : (o : Ordering) → is_gt o ≡ true → o ≡ Greater
greater Less e = cc
greater Equal e = cc
greater Greater e = refl

both : (a b : Bool) → T a → T b → T (a && b)
both true b p q = q
both false b p q = absurd p

module _ {K : Type 0} (R : Order K) where
  -- what is behind a key from a start on is from the start on
  later : (start : Bound K) (a b : K) → is_from R.compare start a ≡ true → R.compare a b ≡ Less → is_from R.compare start b ≡ true
  later (Included s) a b from less = at (R.compare b s) refl
    where
      at : (o : Ordering) → R.compare b s ≡ o → not (is_lt o) ≡ true
      at Less e = sym (ap (λ o. not (is_lt o)) (R.total.trans a b s less e)) ∙ from
      at Equal e = refl
      at Greater e = refl
  later (Excluded s) a b from less =
      let before : R.compare s a ≡ Less = R.total.antisymm s a ∙ ap ordering_reverse (greater _ from) in
      ap is_gt (R.total.antisymm b s ∙ ap ordering_reverse (R.total.trans s a b before less))
  later Unbounded a b from less = refl

  behind : (k j : K) → is_gt (R.compare j k) ≡ true → R.compare k j ≡ Less
  behind k j from = R.total.antisymm k j ∙ ap ordering_reverse (greater _ from)

module _ {K X : Type 0} (R : Order K) where
  below_where : (k : K) (p : K → Bool) → ((j : K) → p j ≡ true → R.compare k j ≡ Less) → (es : List (K × X)) → T (below_all R.compare k (where_key R.compare p es))
  below_where k p after [] = tt
  below_where k p after (e ∷ es) =
      elim (p e.0) as (λ b. p e.0 ≡ b → T (below_all R.compare k (cond b (e ∷ where_key R.compare p es) (where_key R.compare p es)))) [
        | true ↦ λ h. both _ _ (subst (λ o. T (is_lt o)) (sym (after e.0 h)) tt) (below_where k p after es)
        | false ↦ λ h. below_where k p after es
      ] refl

  looked_at : (p : K → Bool) (key : K) (t : Table R X) → find R.compare key (where_key R.compare p t.entries) ≡ cond (p key) (get t key) None
  unfolding get
  looked_at p key t = find-where_key R.compare p key (λ x e. ap p (sym (R.exact key x e))) t.entries

  in_order : (start : Bound K) (t : Table R X) → T (is_sorted R.compare (entries_from start t))
  in_order start t = is_sorted-where_key R.compare (is_from R.compare start) t.entries t.sorted

  -- where nothing is found from a start on, no entry is left
  pub nothing_from : (start : Bound K) (t : Table R X) → ((q : K) → is_from R.compare start q ≡ true → get t q ≡ None) → entries_from start t ≡ []
  nothing_from start t none = same_entries R.compare R.total R.exact _ _ (in_order start t) tt (λ q. looked_at (is_from R.compare start) q t ∙ at q (is_from R.compare start q) refl)
    where
      at : (q : K) (b : Bool) → is_from R.compare start q ≡ b → cond b (get t q) None ≡ None
      at q true from = none q from
      at q false past = refl

  -- the next entry, and what is behind it
  pub next_from : (start : Bound K) (t : Table R X) (k : K) (v : X) → IsNextEntry R.compare start t.entries k v → entries_from start t ≡ (k, v) ∷ entries_from (Excluded k) t
  unfolding get
  next_from start t k v next =
      same_entries R.compare R.total R.exact _ _ (in_order start t)
      (both _ _ (below_where k (is_from R.compare (Excluded k)) (behind R k) t.entries) (in_order (Excluded k) t))
      (λ q. looked_at (is_from R.compare start) q t ∙ at q (R.compare q k) refl)
    where
      lower : (q : K) → R.compare q k ≡ Less → (b : Bool) → is_from R.compare start q ≡ b → (o : Option X) → get t q ≡ o → cond b o None ≡ None
      lower q less false past o is = refl
      lower q less true from None is = refl
      lower q less true from (Some x) is =
          let never : true ≡ false = sym (ap is_lt less) ∙ next.least q from (ap is_some is) in
          cc

      at : (q : K) (o : Ordering) → R.compare q k ≡ o → cond (is_from R.compare start q) (get t q) None ≡ cond (is_eq o) (Some v) (find R.compare q (entries_from (Excluded k) t))
      at q Less e =
          lower q e (is_from R.compare start q) refl (get t q) refl
          ∙ sym (looked_at (is_from R.compare (Excluded k)) q t ∙ ap (λ o. cond (is_gt o) (get t q) None) e)
      at q Equal e =
          ap (λ j. cond (is_from R.compare start j) (get t j) None) (R.exact q k e)
          ∙ ap (λ b. cond b (get t k) None) next.within
          ∙ next.found
      at q Greater e =
          ap (λ b. cond b (get t q) None) (later R start k q next.within (R.total.antisymm k q ∙ ap ordering_reverse e))
          ∙ sym (looked_at (is_from R.compare (Excluded k)) q t ∙ ap (λ o. cond (is_gt o) (get t q) None) e)

  all_kept : (es : List (K × X)) → where_key R.compare (is_from R.compare Unbounded) es ≡ es
  all_kept [] = refl
  all_kept (e ∷ es) = ap (λ rest. e ∷ rest) (all_kept es)

  -- without a start, all entries are left
  pub all_from : (t : Table R X) → entries_from Unbounded t ≡ t.entries
  all_from t = all_kept t.entries

  -- all entries are left where each is from the start on
  pub each_from : (start : Bound K) (t : Table R X) → ((q : K) (x : X) → get t q ≡ Some x → is_from R.compare start q ≡ true) → entries_from start t ≡ t.entries
  unfolding get
  each_from start t each = same_entries R.compare R.total R.exact _ _ (in_order start t) t.sorted (λ q. looked_at (is_from R.compare start) q t ∙ at q (get t q) refl (is_from R.compare start q) refl)
    where
      at : (q : K) (o : Option X) → get t q ≡ o → (b : Bool) → is_from R.compare start q ≡ b → cond b o None ≡ o
      at q None is true from = refl
      at q None is false past = refl
      at q (Some x) is true from = refl
      at q (Some x) is false past = let never : true ≡ false = sym (each q x is) ∙ past in cc

  -- behind an entry stand those from it on
  behind_first : (start : Bound K) (t : Table R X) (e : K × X) (rest : List (K × X)) → entries_from start t ≡ e ∷ rest → rest ≡ entries_from (Excluded e.0) t
  behind_first start t e rest left = ap (drop 1) (sym left ∙ next_from start t e.0 e.1 (run_begins R start t.entries (e ∷ rest) e t.sorted (whole_run R.compare start t.entries (e ∷ rest) (sym left)) refl))

  -- so behind a run stand those from its last one on
  behind_run : (start : Bound K) (t : Table R X) (run rest : List (K × X)) (e : K × X) → entries_from start t ≡ run ++ rest → Some e ≡ slice_get run (length run - 1) → rest ≡ entries_from (Excluded e.0) t
  behind_run start t [] rest e left last = absurd (let never : Some e ≡ None = last in cc)
  behind_run start t (x ∷ []) rest e left last =
      let same : e ≡ x = cc last in
      behind_first start t x rest left ∙ ap (λ (y : K × X). entries_from (Excluded y.0) t) (sym same)
  behind_run start t (x ∷ y ∷ run) rest e left last =
      behind_run (Excluded x.0) t (y ∷ run) rest e (sym (behind_first start t x (y ∷ run ++ rest) left)) (last ∙ ap (slice_get (x ∷ y ∷ run)) {x = length (x ∷ y ∷ run) - 1} {y = suc (length (y ∷ run) - 1)} (omega arith))

  -- the next run, and what is behind its last one
  pub run_next : (start : Bound K) (t : Table R X) (run : List (K × X)) (e : K × X) → IsNextRun R.compare start t.entries run → Some e ≡ slice_get run (length run - 1) → entries_from start t ≡ run ++ entries_from (Excluded e.0) t
  run_next start t run e next last =
      let left = entries_from start t in
      let parts : left ≡ run ++ drop (length run) left = sym (take-append-drop (length run) left) ∙ ap (λ front. front ++ drop (length run) left) (sym next.first) in
      parts ∙ ap (λ rest. run ++ rest) (behind_run start t run (drop (length run) left) e parts last)
