-- The tables that the node and name rows of an image make.
use Rattle.std.proofs.Common.{◌≡◌, ℕ, zero, suc, ◌<◌, ◌≤◌, Bool, true, false, cond, T, All, List, [], ◌∷◌, length, map, slice_index_or, Option, Some, None, option_map, IsTrue, refl, sym, ap, subst, ◌∙◌, arith, leb-true}
use Rattle.std.proofs.lemmas.List.Elements.{All-map}
use Rattle.std.proofs.lemmas.Cmp.{ranked}
use Rattle.std.specs.declared.cmp.Ordering.TheVariants.{Less}
use Rattle.std.specs.Ordering.{nat_cmp, eq_by_cmp}
use Rattle.std.specs.FinMap.Entries.{is_sorted, below_all}
use Rattle.std.specs.List.{AllByRecursion}
use Rattle.std.proofs.lemmas.List.Elements.{All-from_recursion}
use Rattle.kfs_types.specs.Views.{header_of, name_row_of}
use Rattle.kfs_types.specs.declared.entry.Header.{Header as CodeHeader}
use Rattle.kfs_types.specs.declared.plan.NameRow.{NameRow}
use Rattle.kfs_model.specs.Header.{Header}
use Rattle.kfs_model.specs.Table.{Order, Table, numbers, get, insert, empty, changed}
use Rattle.kfs_model.specs.Tree.{name_order}
use Rattle.kfs_model.specs.Sight.{is_directory}
use Rattle.kfs_model.specs.Spelling.{IsName}
use Rattle.kfs_model.specs.PlanRow.{NameRow as ModelNameRow}
use Rattle.kfs_model.specs.Plan.{keyed_name}
use Rattle.kfs_model.proofs.CleanIsAllowed.{left, right}
use Rattle.kfs_model.proofs.Counts.{is_less}
use Rattle.kfs_model.proofs.TableLaws.{same_table, get-mapped, get-changed, get-insert}
use Rattle.kfs_model.proofs.Tables.{left_part, right_part}
use Rattle.kfs_model.specs.Device.RawImage.{RawNode, RawImage, table_of, node_entry, heads_of, names_of, IsSpelled}
use Rattle.kfs_model.specs.Device.Rules.{Test, with_previous, number_test, rule_1, rule_2, rule_3, rule_4, rule_5, rule_6, rule_7, rule_8, rule_9, rule_10}
use Rattle.kfs_model.specs.Device.Finding.{Finding, least_of, least_failed, finding_from, finding_of, IsWellFormed}
use Rattle.kfs_model.proofs.DeviceLemmas.RowTables.{AreAbove, sorted_rows}
use Rattle.kfs_model.proofs.DeviceLemmas.RulesHold.{numbers_in_range, names_ascend, in_directories}
use Rattle.kfs_model.proofs.DeviceLemmas.SoundImage.{each_head, some_directory}
use Rattle.kfs_image.specs.declared.codec.raw.RawNode.{RawNode as CodeRawNode}
use Rattle.kfs_image.specs.declared.codec.raw.RawImage.{RawImage as CodeRawImage}
use Rattle.kfs_image.specs.Codec.RawImages.{raw_node_of, raw_of}
use Rattle.kfs_maps.specs.Chunks.Tables.{table}
use Rattle.kfs_maps.specs.declared.pages.change.NumberEdit.{NumberEdit}
use Rattle.kfs_maps.specs.Pages.Edits.{rewritten, AreEdits}
use Rattle.kfs_image_nodes.specs.NodeEdits.{IsNumber}
use Rattle.kfs_image_nodes.specs.Rows.{heads_of as heads_shown}
use Rattle.kfs_image_nodes.specs.SortedRows.{name_entries}
use Rattle.kfs_image_nodes.proofs.NodeEdits.{viewed, no_heads}
use Rattle.kfs_image.specs.Raw.Rows.{header_edit}
use Rattle.kfs_image.proofs.RawLemmas.Inserted.{inserted, inserted_are, sorted_has_each}

-- what holds of each row as a value of the definitions
pub of_each : {X Y : Type 0} (P : Y → Type 0) (view : X → Y) (rows : List X) → AllByRecursion P (map view rows) → All (λ row. P (view row)) rows
of_each {X} P view rows all = All-from_recursion (λ row. P (view row)) rows (by rows all)
  where
    by : (rows : List X) → AllByRecursion P (map view rows) → AllByRecursion (λ row. P (view row)) rows
    by [] all = tt
    by (row ∷ rows) all = (all.0, by rows all.1)

-- ---- node rows that ascend, in range

abbrev InRange : RawNode → Type 0
InRange row = (1 ≤ row.number) × (row.number ≤ 65536)

ascending : (previous : Option RawNode) (rows : List RawNode) → least_failed (map number_test (with_previous previous rows)) ≡ None → AreAbove numbers node_entry (with_previous previous rows) × AllByRecursion InRange rows
ascending previous [] none = (tt, tt)
ascending previous (row ∷ rows) none = at (number_test (previous, row)).holds refl (ascending (Some row) rows) none
  where
    at : (b : Bool) → (number_test (previous, row)).holds ≡ b
        → (least_failed (map number_test (with_previous (Some row) rows)) ≡ None → AreAbove numbers node_entry (with_previous (Some row) rows) × AllByRecursion InRange rows)
        → cond b (least_failed (map number_test (with_previous (Some row) rows))) (Some (least_of row.number (least_failed (map number_test (with_previous (Some row) rows))))) ≡ None
        → AreAbove numbers node_entry (with_previous previous (row ∷ rows)) × AllByRecursion InRange (row ∷ rows)
    at true is behind rest =
        let (above, within) = behind rest in
        ((left _ _ (left _ _ is), above), ((leb-true 1 row.number (right _ _ (left _ _ is)), leb-true row.number 65536 (right _ _ is)), within))
    at false is behind rest = cc

module _ {A : Type 0} (raw : CodeRawImage A) (in_range : least_failed (rule_1 (raw_of raw)) ≡ None) where
  rows_ascend : AreAbove numbers node_entry (with_previous None (raw_of raw).nodes) × AllByRecursion InRange (raw_of raw).nodes
  rows_ascend = ascending None (raw_of raw).nodes in_range

  entries_ascend : T (is_sorted nat_cmp (map node_entry (raw_of raw).nodes))
  entries_ascend = sorted_rows numbers node_entry (raw_of raw).nodes rows_ascend.0

  abbrev entry : CodeRawNode → ℕ × Header
  entry row = node_entry (raw_node_of row)

  above_each : (number : ℕ) (rows : List CodeRawNode) → T (below_all nat_cmp number (map node_entry (map raw_node_of rows))) → (j : ℕ) (d : NumberEdit CodeHeader) → j < length (map header_edit rows) → number < (slice_index_or (map header_edit rows) j d).number
  above_each number [] below j d within = absurd (omega (arith, within))
  above_each number (row ∷ rows) below zero d within = ranked number row.number Less (sym (is_less _ (left_part _ _ below)))
  above_each number (row ∷ rows) below (suc j) d within = above_each number rows (right_part _ _ below) j d (omega (arith, within))

  each_above : (rows : List CodeRawNode) → T (is_sorted nat_cmp (map node_entry (map raw_node_of rows))) → (i j : ℕ) (d : NumberEdit CodeHeader) → i < j → j < length (map header_edit rows)
      → (slice_index_or (map header_edit rows) i d).number < (slice_index_or (map header_edit rows) j d).number
  each_above [] sorted i j d less within = absurd (omega (arith, within))
  each_above (row ∷ rows) sorted i zero d less within = absurd (omega (arith, less))
  each_above (row ∷ rows) sorted zero (suc j) d less within = above_each row.number rows (left_part _ _ sorted) j d (omega (arith, within))
  each_above (row ∷ rows) sorted (suc i) (suc j) d less within = each_above rows (right_part _ _ sorted) i j d (omega (arith, less)) (omega (arith, within))

  pub are_edits : AreEdits (map header_edit raw.nodes.items)
  are_edits = record {
    ascend = each_above raw.nodes.items entries_ascend;
    range = All-map (λ (e : NumberEdit CodeHeader). (1 ≤ e.number) × (e.number ≤ 65536)) header_edit raw.nodes.items (of_each InRange raw_node_of raw.nodes.items rows_ascend.1);
  }

  one_more : (t : Table numbers CodeHeader) (number : ℕ) (header : CodeHeader) → heads_shown (changed t number (Some header)) ≡ insert (heads_shown t) number (header_of header)
  one_more t number header =
      same_table _ _ (λ q.
      get-mapped (λ number header. header_of header) (changed t number (Some header)) q
      ∙ ap (option_map header_of) (get-changed t number (Some header) q)
      ∙ viewed (eq_by_cmp nat_cmp q number) (Some header) (get t q)
      ∙ ap (cond (eq_by_cmp nat_cmp q number) (Some (header_of header))) (sym (get-mapped (λ number header. header_of header) t q))
      ∙ sym (get-insert (heads_shown t) number (header_of header) q))

  all_inserted : (t : Table numbers CodeHeader) (rows : List CodeRawNode) → heads_shown (rewritten t (map header_edit rows)) ≡ inserted numbers (heads_shown t) (map node_entry (map raw_node_of rows))
  all_inserted t [] = refl
  all_inserted t (row ∷ rows) =
      all_inserted (changed t row.number (Some row.header)) rows ∙ ap (λ heads. inserted numbers heads (map node_entry (map raw_node_of rows))) (one_more t row.number row.header)

  none_there : (number : ℕ) → get {X = Header} {R = numbers} empty number ≡ None
  unfolding get
  none_there number = refl

  pub heads_made : heads_shown (rewritten empty (map header_edit raw.nodes.items)) ≡ heads_of (raw_of raw)
  heads_made =
      all_inserted empty raw.nodes.items
      ∙ ap (λ heads. inserted numbers heads (map node_entry (raw_of raw).nodes)) no_heads
      ∙ inserted_are numbers empty (map node_entry (raw_of raw).nodes) (sorted_has_each numbers (map node_entry (raw_of raw).nodes) entries_ascend) (λ number none. none_there number)

-- ---- a well formed image's rows

abbrev later_rules : List (ℕ × (RawImage → List Test))
later_rules = (2, rule_2) ∷ (3, rule_3) ∷ (4, rule_4) ∷ (5, rule_5) ∷ (6, rule_6) ∷ (7, rule_7) ∷ (8, rule_8) ∷ (9, rule_9) ∷ (10, rule_10) ∷ []

none_of_first : (raw : RawImage) → finding_from raw ((1, rule_1) ∷ later_rules) ≡ None → least_failed (rule_1 raw) ≡ None
none_of_first raw none = at (least_failed (rule_1 raw)) none
  where
    at : (o : Option ℕ) → ◌≡◌ {A = Option Finding} (elim o [ None ↦ finding_from raw later_rules | Some number ↦ Some (record { rule = 1; number = number }) ]) None → o ≡ None
    at None none = refl
    at (Some number) none = cc

first_none : (raw : RawImage) → IsWellFormed raw → least_failed (rule_1 raw) ≡ None
unfolding finding_of
first_none raw well_formed = none_of_first raw well_formed

name_entries_are : (rows : List (NameRow (List ℕ))) → name_entries rows ≡ map keyed_name (map name_row_of rows)
name_entries_are [] = refl
name_entries_are (row ∷ rows) = ap (λ es. ((row.dir, row.name), row.number) ∷ es) (name_entries_are rows)

table_is : {K X : Type 0} (R : Order K) (es : List (K × X)) → table R es ≡ table_of R es
unfolding table
table_is R [] = refl
table_is R (e ∷ es) = ap (λ t. insert t e.0 e.1) (table_is R es)

module _ {A : Type 0} (raw : CodeRawImage A) (well_formed : IsWellFormed (raw_of raw)) where
  pub in_range : least_failed (rule_1 (raw_of raw)) ≡ None
  in_range = first_none (raw_of raw) well_formed

  numbered : (number : ℕ) (h : Header) → get (heads_of (raw_of raw)) number ≡ Some h → IsNumber number
  numbered = each_head (raw_of raw) (λ number h. IsNumber number) (numbers_in_range (raw_of raw) well_formed)

  a_number : (number : ℕ) → IsTrue (is_directory (get (heads_of (raw_of raw)) number)) → IsNumber number
  a_number number directory = let (h, is, kind) = some_directory (get (heads_of (raw_of raw)) number) directory in numbered number h is

  directories : (rows : List ModelNameRow) → AllByRecursion (λ row. IsTrue (is_directory (get (heads_of (raw_of raw)) row.directory))) rows → AllByRecursion (λ row. IsNumber row.directory) rows
  directories [] all = tt
  directories (row ∷ rows) all = (a_number row.directory all.0, directories rows all.1)

  pub directories_numbered : All (λ row. IsNumber row.dir) raw.names.items
  directories_numbered = of_each (λ row. IsNumber row.directory) name_row_of raw.names.items (directories (raw_of raw).names (in_directories (raw_of raw) well_formed))

  pub names_sorted : T (is_sorted name_order.compare (name_entries raw.names.items))
  names_sorted =
      subst (λ es. T (is_sorted name_order.compare es)) (sym (name_entries_are raw.names.items)) (sorted_rows name_order keyed_name (raw_of raw).names (names_ascend (raw_of raw) well_formed))

  pub names_made : table name_order (name_entries raw.names.items) ≡ names_of (raw_of raw)
  names_made = ap (table name_order) (name_entries_are raw.names.items) ∙ table_is name_order (map keyed_name (raw_of raw).names)

pub names_are_names : {A : Type 0} (raw : CodeRawImage A) → IsSpelled (raw_of raw) → All (λ row. IsName row.name) raw.names.items
names_are_names raw spelled = of_each (λ row. IsName row.name) name_row_of raw.names.items spelled.names
