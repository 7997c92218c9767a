-- Rows in order, as edits: each key comes once, so an edit finds what was there before all of them.
use Rattle.std.proofs.Common.{◌≡◌, ℕ, ◌+◌, ◌<◌, cond, List, [], ◌∷◌, ◌++◌, length, map, take, slice_index_or, All, Option, refl, sym, ap, subst, ◌∙◌, arith}
use Rattle.std.proofs.lemmas.List.{take_more, get_or-take, length-take-le, get_or_default}
use Rattle.std.proofs.lemmas.List.Elements.{All-head, All-tail}
use Rattle.std.specs.declared.cmp.Ordering.TheVariants.{Less}
use Rattle.std.specs.Ordering.{is_eq}
use Rattle.std.specs.Cmp.{eq_by_cmp_equiv}
use Rattle.std.specs.FinMap.Entries.{find}
use Rattle.kfs_types.specs.declared.entry.Header.{Header as CodeHeader}
use Rattle.kfs_types.specs.declared.plan.NameRow.{NameRow}
use Rattle.kfs_types.specs.declared.plan.NodeRow.{NodeRow}
use Rattle.kfs_model.specs.Spelling.{IsName}
use Rattle.kfs_model.specs.Table.{Order, Table, get, changed}
use Rattle.kfs_model.specs.Tree.{NameTable, name_order}
use Rattle.kfs_maps.specs.Pages.Edits as numbered
use Rattle.kfs_maps.specs.declared.chunks.entries.KeyEdit.{KeyEdit}
use Rattle.kfs_maps.specs.Chunks.Edits.{edited, KeysAscend}
use Rattle.kfs_maps.specs.Chunks.Tables.{table, table_after}
use Rattle.kfs_maps.proofs.ChunksLemmas.Tables.{get-table, get-table_after}
use Rattle.kfs_image_nodes.specs.Change.{led_to, renamed}
use Rattle.kfs_image_nodes.specs.Indexes.{AreNames}
use Rattle.kfs_image_nodes.specs.NameEdits.{name_edit}
use Rattle.kfs_image_nodes.specs.NodeEdits.{left_by, node_edit}
use Rattle.kfs_image_nodes.proofs.Indexes.{still_names}

module _ {K V : Type 0} (R : Order K) where
  -- edits of lower keys leave a key as it is
  edited_above : (es : List (KeyEdit K V)) (q : K) (there : Option V) → All (λ (e : KeyEdit K V). R.compare e.key q ≡ Less) es → edited R.compare es q there ≡ there
  edited_above [] q there under = refl
  edited_above (e ∷ es) q there under =
      ap (λ b. edited R.compare es q (cond b e.value there)) ((eq_by_cmp_equiv R.total).symm q e.key ∙ ap is_eq (All-head (λ (x : KeyEdit K V). R.compare x.key q ≡ Less) e es under))
      ∙ edited_above es q there (All-tail (λ (x : KeyEdit K V). R.compare x.key q ≡ Less) e es under)

  -- so do the edits before its own, where the keys ascend
  pub get_before_edit : (t : Table R V) (es : List (KeyEdit K V)) (i : ℕ) (d : KeyEdit K V) → KeysAscend R.compare es → i < length es
      → get (table_after t (take i es)) (slice_index_or es i d).key ≡ get t (slice_index_or es i d).key
  get_before_edit t es i d ascend within =
      get-table_after t (take i es) (slice_index_or es i d).key ∙ edited_above (take i es) (slice_index_or es i d).key (get t (slice_index_or es i d).key) under
    where
      under : All (λ (e : KeyEdit K V). R.compare e.key (slice_index_or es i d).key ≡ Less) (take i es)
      under k e below =
          let less : k < i = omega (arith, below, length-take-le i es (omega (arith, within))) in
          subst (λ (x : KeyEdit K V). R.compare x.key (slice_index_or es i d).key ≡ Less) (sym (get_or-take i es k e less))
          (subst (λ (x : KeyEdit K V). R.compare (slice_index_or es k e).key x.key ≡ Less) (get_or_default es i e d within) (ascend k i e less within))

  -- the table after one more edit
  pub table_after_next : (t : Table R V) (es : List (KeyEdit K V)) (e : KeyEdit K V) → table_after t (es ++ e ∷ []) ≡ changed (table_after t es) e.key e.value
  unfolding table_after
  table_after_next t [] e = refl
  table_after_next t (x ∷ es) e = table_after_next (changed t x.key x.value) es e

  pub table_after_none : (t : Table R V) → table_after t [] ≡ t
  unfolding table_after
  table_after_none t = refl

-- an edit of the names finds what was there before all of them
pub found_before_edit : (names : List ((ℕ × List ℕ) × ℕ)) (es : List (KeyEdit (ℕ × List ℕ) ℕ)) (i : ℕ) (e : KeyEdit (ℕ × List ℕ) ℕ) → KeysAscend name_order.compare es → i < length es → e ≡ slice_index_or es i e
    → find name_order.compare e.key names ≡ get (table_after (table name_order names) (take i es)) e.key
found_before_edit names es i e ascend within is =
    sym (get-table name_order names e.key)
    ∙ sym (subst (λ (x : KeyEdit (ℕ × List ℕ) ℕ). get (table_after (table name_order names) (take i es)) x.key ≡ get (table name_order names) x.key) (sym is) (get_before_edit name_order (table name_order names) es i e ascend within))

-- the names after the next edit
pub edited_next : (names : NameTable) (es : List (KeyEdit (ℕ × List ℕ) ℕ)) (i : ℕ) (e : KeyEdit (ℕ × List ℕ) ℕ) → i < length es → e ≡ slice_index_or es i e
    → changed (table_after names (take i es)) e.key e.value ≡ table_after names (take (i + 1) es)
edited_next names es i e within is =
    sym (table_after_next name_order names (take i es) e) ∙ ap (table_after names) (ap (λ x. take i es ++ x ∷ []) is ∙ sym (take_more es i e within))

-- the rows' edits make of the names what the rows make
pub edits_rename : (names : NameTable) (rows : List (NameRow (List ℕ))) → table_after names (map name_edit rows) ≡ renamed names rows
unfolding table_after
edits_rename names [] = refl
edits_rename names (row ∷ rows) = edits_rename (changed names (row.dir, row.name) (led_to row.number)) rows

-- edits of valid names leave names valid
pub edits_of_names : (names : NameTable) (es : List (KeyEdit (ℕ × List ℕ) ℕ)) → AreNames names → All (λ (e : KeyEdit (ℕ × List ℕ) ℕ). IsName e.key.1) es → AreNames (table_after names es)
unfolding table_after
edits_of_names names [] all valid = all
edits_of_names names (e ∷ es) all valid =
    edits_of_names (changed names e.key e.value) es (still_names names e.key.0 e.key.1 e.value all (All-head (λ (x : KeyEdit (ℕ × List ℕ) ℕ). IsName x.key.1) e es valid))
    (All-tail (λ (x : KeyEdit (ℕ × List ℕ) ℕ). IsName x.key.1) e es valid)

-- the rows' edits leave of a number what the rows leave
pub edits_leave : (rows : List NodeRow) (q : ℕ) (there : Option CodeHeader) → numbered.edited (map node_edit rows) q there ≡ left_by rows q there
edits_leave [] q there = refl
edits_leave (row ∷ rows) q there = edits_leave rows q _
