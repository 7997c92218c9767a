-- Entries inserted one after another make the table of the entries, where no two of them disagree.
use Rattle.std.proofs.Common.{◌≡◌, cond, T, List, [], ◌∷◌, inl, inr, ⊎_elim, Option, Some, None, refl, sym, ap, subst, ◌∙◌}
use Rattle.std.specs.declared.cmp.Ordering.{Ordering}
use Rattle.std.specs.declared.cmp.Ordering.TheVariants.{Less, Equal, Greater}
use Rattle.std.specs.Ordering.{is_eq}
use Rattle.std.specs.Cmp.{tied_itself}
use Rattle.std.specs.FinMap.Entries.{find, is_sorted}
use Rattle.kfs_model.specs.Table.{Order, Table, get, insert}
use Rattle.kfs_model.proofs.TableLaws.{same_table, get-insert}
use Rattle.kfs_model.proofs.Tables.{right_part, find_head, find_behind}
use Rattle.kfs_model.specs.Device.RawImage.{table_of}
use Rattle.kfs_model.proofs.DeviceLemmas.Among.{Among}
use Rattle.kfs_model.proofs.DeviceLemmas.RowTables.{get_among, sorted_entries}

module _ {K X : Type 0} (R : Order K) where
  -- the table with these entries added, one after the other
  abbrev pub inserted : Table R X → List (K × X) → Table R X
  inserted t [] = t
  inserted t (e ∷ es) = inserted (insert t e.0 e.1) es

  -- the table has each of the entries
  abbrev pub HasEach : Table R X → List (K × X) → Type 0
  HasEach t es = (key : K) (value : X) → Among (key, value) es → get t key ≡ Some value

  module _ (whole : Table R X) where
    -- a key that shows the right value keeps it
    right_stays : (t : Table R X) (es : List (K × X)) → HasEach whole es → (key : K) → get t key ≡ get whole key → get (inserted t es) key ≡ get whole key
    right_stays t [] has key right = right
    right_stays t (e ∷ es) has key right =
        right_stays (insert t e.0 e.1) es (λ k v among. has k v (inr among)) key (get-insert t e.0 e.1 key ∙ at (R.compare key e.0) refl)
      where
        at : (o : Ordering) → R.compare key e.0 ≡ o → cond (is_eq o) (Some e.1) (get t key) ≡ get whole key
        at Less tie = right
        at Equal tie = sym (has e.0 e.1 (inl refl)) ∙ ap (get whole) (sym (R.exact key e.0 tie))
        at Greater tie = right

    -- and a key of an entry comes to show it
    comes_right : (t : Table R X) (es : List (K × X)) → HasEach whole es → (key : K) (value : X) → Among (key, value) es → get (inserted t es) key ≡ get whole key
    comes_right t [] has key value among = absurd among
    comes_right t (e ∷ es) has key value among =
        ⊎_elim
        (λ here. subst (λ k. get (inserted (insert t e.0 e.1) es) k ≡ get whole k) (sym (ap (λ (p : K × X). p.0) here)) (right_stays (insert t e.0 e.1) es (λ k v there. has k v (inr there)) e.0 first))
        (λ later. comes_right (insert t e.0 e.1) es (λ k v there. has k v (inr there)) key value later)
        among
      where
        first : get (insert t e.0 e.1) e.0 ≡ get whole e.0
        first = get-insert t e.0 e.1 e.0 ∙ ap (λ o. cond (is_eq o) (Some e.1) (get t e.0)) (tied_itself R.total e.0) ∙ sym (has e.0 e.1 (inl refl))

  -- a table without other keys becomes the table of the entries
  pub inserted_are : (t : Table R X) (es : List (K × X)) → HasEach (table_of R es) es → ((key : K) → get (table_of R es) key ≡ None → get t key ≡ None) → inserted t es ≡ table_of R es
  inserted_are t es has without = same_table _ _ (λ key. at key (get (table_of R es) key) refl)
    where
      at : (key : K) (o : Option X) → get (table_of R es) key ≡ o → get (inserted t es) key ≡ get (table_of R es) key
      at key None is = right_stays (table_of R es) t es has key (without key is ∙ sym is)
      at key (Some value) is = comes_right (table_of R es) t es has key value (get_among R es key value is)

  -- ---- entries that ascend

  member_found : (es : List (K × X)) → T (is_sorted R.compare es) → (key : K) (value : X) → Among (key, value) es → find R.compare key es ≡ Some value
  member_found [] sorted key value among = absurd among
  member_found (e ∷ es) sorted key value among =
      ⊎_elim
      (λ here. subst (λ (p : K × X). find R.compare p.0 (e ∷ es) ≡ Some p.1) (sym here) (find_head R e es))
      (λ later. find_behind R key value e es sorted (member_found es (right_part _ _ sorted) key value later))
      among

  pub sorted_has_each : (es : List (K × X)) → T (is_sorted R.compare es) → HasEach (table_of R es) es
  unfolding get
  sorted_has_each es sorted key value among = ap (find R.compare key) (sorted_entries R es sorted) ∙ member_found es sorted key value among
