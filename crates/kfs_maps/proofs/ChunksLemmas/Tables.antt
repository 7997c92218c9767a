-- The tables of entries: what they have at a key, and what edits make of them.
use Rattle.std.proofs.Common.{◌≡◌, Bool, true, false, cond, not, T, List, [], ◌∷◌, Option, Some, None, refl, sym, ap, ◌∙◌}
use Rattle.std.specs.Ordering.{eq_by_cmp}
use Rattle.std.specs.Cmp.{eq_by_cmp_equiv}
use Rattle.std.specs.FinMap.Entries.{find, find-put, find-where_key, is_sorted, same_entries}
use Rattle.kfs_model.specs.Table.{Order, Table, get, changed}
use Rattle.kfs_model.proofs.TableLaws.{get-insert, same_table, get-changed}
use Rattle.kfs_maps.specs.declared.chunks.entries.KeyEdit.{KeyEdit}
use Rattle.kfs_maps.specs.Chunks.Edits.{edited, entered, rewritten}
use Rattle.kfs_maps.specs.Chunks.Tables.{table, table_after}

module _ {K V : Type 0} (R : Order K) where
  -- the table has at a key what is found there
  pub get-table : (xs : List (K × V)) (q : K) → get (table R xs) q ≡ find R.compare q xs
  unfolding table get
  get-table [] q = refl
  get-table (e ∷ es) q = get-insert (table R es) e.0 e.1 q ∙ ap (cond (eq_by_cmp R.compare q e.0) (Some e.1)) (get-table es q)

  -- entries in which the same is found make one table
  pub same_found : (xs ys : List (K × V)) → ((q : K) → find R.compare q xs ≡ find R.compare q ys) → table R xs ≡ table R ys
  same_found xs ys same = same_table (table R xs) (table R ys) (λ q. get-table xs q ∙ same q ∙ sym (get-table ys q))

  -- sorted entries are those of their table
  pub entries-table : (xs : List (K × V)) → T (is_sorted R.compare xs) → (table R xs).entries ≡ xs
  unfolding get
  entries-table xs sorted = same_entries R.compare R.total R.exact (table R xs).entries xs (table R xs).sorted sorted (get-table xs)

  pub find-entered : (xs : List (K × V)) (k : K) (w : Option V) (q : K) → find R.compare q (entered R.compare xs k w) ≡ cond (eq_by_cmp R.compare q k) w (find R.compare q xs)
  unfolding get
  find-entered xs k None q =
      find-where_key R.compare (λ j. not (eq_by_cmp R.compare k j)) q (λ x e. ap (λ j. not (eq_by_cmp R.compare k j)) (sym (R.exact q x e))) xs
      ∙ turned (eq_by_cmp R.compare k q) (eq_by_cmp R.compare q k) ((eq_by_cmp_equiv R.total).symm k q)
    where
      turned : (a b : Bool) → a ≡ b → cond (not a) (find R.compare q xs) None ≡ cond b None (find R.compare q xs)
      turned a true e = ap (λ x. cond (not x) (find R.compare q xs) None) e
      turned a false e = ap (λ x. cond (not x) (find R.compare q xs) None) e
  find-entered xs k (Some v) q = find-put R.compare R.total q k v xs

  -- what is found after edits
  pub find-rewritten : (xs : List (K × V)) (es : List (KeyEdit K V)) (q : K) → find R.compare q (rewritten R xs es) ≡ edited R.compare es q (find R.compare q xs)
  find-rewritten xs [] q = refl
  find-rewritten xs (e ∷ es) q = find-rewritten (entered R.compare xs e.key e.value) es q ∙ ap (edited R.compare es q) (find-entered xs e.key e.value q)

module _ {K V : Type 0} {R : Order K} where
  pub get-table_after : (t : Table R V) (es : List (KeyEdit K V)) (q : K) → get (table_after t es) q ≡ edited R.compare es q (get t q)
  unfolding table_after
  get-table_after t [] q = refl
  get-table_after t (e ∷ es) q = get-table_after (changed t e.key e.value) es q ∙ ap (edited R.compare es q) (get-changed t e.key e.value q)

module _ {K V : Type 0} (R : Order K) where
  -- the table of edited entries is the table after the edits
  pub table-rewritten : (xs : List (K × V)) (es : List (KeyEdit K V)) → table R (rewritten R xs es) ≡ table_after (table R xs) es
  table-rewritten xs es =
      same_table (table R (rewritten R xs es)) (table_after (table R xs) es) (λ q.
      get-table R (rewritten R xs es) q ∙ find-rewritten R xs es q ∙ ap (edited R.compare es q) (sym (get-table R xs q)) ∙ sym (get-table_after (table R xs) es q))
