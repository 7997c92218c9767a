-- Tables that are made of rows: what they show is a row, and ascending rows are their entries.
use Rattle.std.proofs.Common.{◌≡◌, Bool, true, false, cond, ◌&&◌, T, List, [], ◌∷◌, map, inl, inr, ⊎_elim, Option, Some, None, refl, sym, ap, subst, ◌∙◌}
use Rattle.std.specs.declared.cmp.Ordering.{Ordering}
use Rattle.std.specs.declared.cmp.Ordering.TheVariants.{Less, Equal, Greater}
use Rattle.std.specs.Bool.{passes}
use Rattle.std.specs.Ordering.{is_eq, is_lt}
use Rattle.std.specs.Cmp.{tied_itself}
use Rattle.std.specs.List.{AllByRecursion}
use Rattle.std.specs.FinMap.Entries.{put, is_sorted, below_all, by_order}
use Rattle.kfs_model.specs.Table.{Order, get, insert}
use Rattle.kfs_model.proofs.TableLaws.{get-insert}
use Rattle.kfs_model.proofs.Tables.{left_part, right_part}
use Rattle.kfs_model.proofs.Counts.{is_less}
use Rattle.kfs_model.specs.Device.RawImage.{table_of}
use Rattle.kfs_model.specs.Device.Rules.{with_previous, is_above}
use Rattle.kfs_model.proofs.DeviceLemmas.Among.{Among}

both_parts : (a b : Bool) → T a → T b → T (a && b)
both_parts true b p q = q
both_parts false b p q = p

module _ {K X : Type 0} (R : Order K) where
  -- ---- what a table of entries shows

  pub get_among : (es : List (K × X)) (key : K) (value : X) → get (table_of R es) key ≡ Some value → Among (key, value) es
  unfolding get
  get_among [] key value is = cc
  get_among (e ∷ es) key value is = at (R.compare key e.0) refl (get_among es key value) (sym (get-insert (table_of R es) e.0 e.1 key) ∙ is)
    where
      at : (o : Ordering) → R.compare key e.0 ≡ o → (get (table_of R es) key ≡ Some value → Among (key, value) es) → cond (is_eq o) (Some e.1) (get (table_of R es) key) ≡ Some value → Among (key, value) (e ∷ es)
      at Less tie rest is = inr (rest is)
      at Equal tie rest is = let keys = R.exact key e.0 tie in let values : value ≡ e.1 = cc in inl (λ i. (keys i, values i))
      at Greater tie rest is = inr (rest is)

  -- the one value that its key has among the entries
  pub among_get : (es : List (K × X)) (key : K) (value : X) → Among (key, value) es → ((other : X) → Among (key, other) es → other ≡ value) → get (table_of R es) key ≡ Some value
  among_get [] key value among one = absurd among
  among_get (e ∷ es) key value among one = get-insert (table_of R es) e.0 e.1 key ∙ at (R.compare key e.0) refl among (λ there. among_get es key value there (λ other also. one other (inr also)))
    where
      untied : {P : Type 0} (o : Ordering) → R.compare key e.0 ≡ o → is_eq o ≡ false → (key, value) ≡ e → P
      untied o tie apart here =
          let tied : R.compare key e.0 ≡ Equal = subst (λ k. R.compare key k ≡ Equal) (ap (λ p. p.0) here) (tied_itself R.total key) in
          let eq : is_eq o ≡ true = ap is_eq (sym tie ∙ tied) in
          cc

      at : (o : Ordering) → R.compare key e.0 ≡ o → Among (key, value) (e ∷ es) → (Among (key, value) es → get (table_of R es) key ≡ Some value) → cond (is_eq o) (Some e.1) (get (table_of R es) key) ≡ Some value
      at Less tie among rest = ⊎_elim (λ here. untied Less tie refl here) rest among
      at Equal tie among rest =
          let keys = R.exact key e.0 tie in
          ap Some (one e.1 (inl (λ i. (keys i, e.1))))
      at Greater tie among rest = ⊎_elim (λ here. untied Greater tie refl here) rest among

  -- ---- entries that ascend

  put_front : (key : K) (value : X) (es : List (K × X)) → T (below_all R.compare key es) → put R.compare key value es ≡ (key, value) ∷ es
  put_front key value [] below = refl
  put_front key value (e ∷ es) below = ap (λ o. by_order o ((key, value) ∷ e ∷ es) ((e.0, value) ∷ es) (e ∷ put R.compare key value es)) (is_less _ (left_part _ _ below))

  pub sorted_entries : (es : List (K × X)) → T (is_sorted R.compare es) → (table_of R es).entries ≡ es
  unfolding insert
  sorted_entries [] sorted = refl
  sorted_entries (e ∷ es) sorted = ap (put R.compare e.0 e.1) (sorted_entries es (right_part _ _ sorted)) ∙ put_front e.0 e.1 es (left_part _ _ sorted)

  below_lower : (key other : K) (es : List (K × X)) → R.compare key other ≡ Less → T (below_all R.compare other es) → T (below_all R.compare key es)
  below_lower key other [] less below = tt
  below_lower key other (e ∷ es) less below =
      let head : R.compare key e.0 ≡ Less = R.total.trans key other e.0 less (is_less _ (left_part _ _ below)) in
      subst (λ o. T (is_lt o && below_all R.compare key es)) (sym head) (below_lower key other es less (right_part _ _ below))

  module _ {Z : Type 0} (entry : Z → K × X) where
    abbrev pub AreAbove : List (Option Z × Z) → Type 0
    AreAbove rows = AllByRecursion (λ e. is_above R (λ row. (entry row).0) e ≡ true) rows

    sorted_behind : (previous : Z) (rows : List Z) → AreAbove (with_previous (Some previous) rows)
        → T (below_all R.compare (entry previous).0 (map entry rows)) × T (is_sorted R.compare (map entry rows))
    sorted_behind previous [] above = (tt, tt)
    sorted_behind previous (row ∷ rows) above =
        let (below, sorted) = sorted_behind row rows above.1 in
        let less : T (is_lt (R.compare (entry previous).0 (entry row).0)) = passes _ above.0 in
        (both_parts _ _ less (below_lower (entry previous).0 (entry row).0 (map entry rows) (is_less _ less) below), both_parts _ _ below sorted)

    -- rows each of which is above the one before it
    pub sorted_rows : (rows : List Z) → AreAbove (with_previous None rows) → T (is_sorted R.compare (map entry rows))
    sorted_rows [] above = tt
    sorted_rows (row ∷ rows) above = let (below, sorted) = sorted_behind row rows above.1 in both_parts _ _ below sorted
