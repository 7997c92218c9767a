-- Rows that are exactly the differences of two tables make the one table of the other.
use Rattle.std.proofs.Common.{◌≡◌, ◌≢◌, ℕ, nat_eq, Bool, true, false, cond, T, List, [], ◌∷◌, map, Option, Some, None, option_map, refl, sym, ap, subst, ◌∙◌, ne_eqb, arith}
use Rattle.std.specs.declared.cmp.Ordering.{Ordering}
use Rattle.std.specs.declared.cmp.Ordering.TheVariants.{Less, Equal, Greater}
use Rattle.std.specs.Ordering.{is_eq}
use Rattle.std.specs.Bool.{Decides, passes}
use Rattle.std.specs.FinMap.Entries.{find, is_sorted}
use Rattle.kfs_model.specs.Header.{Header}
use Rattle.kfs_model.specs.Table.{Order, Table, numbers, get, changed}
use Rattle.kfs_model.proofs.TableLaws.{same_table, get-changed}
use Rattle.kfs_model.specs.Tree.{Tree, NameTable, headers, name_order}
use Rattle.kfs_model.specs.Soundness.{IsSound}
use Rattle.kfs_model.specs.FirstWrong.{same_option, same_header}
use Rattle.kfs_model.specs.Plan.{AreDifferences, number_now, header_now, keyed_name, keyed_node}
use Rattle.kfs_model.proofs.Exact.{IsExact, options-exact, numbers-exact, headers-exact}
use Rattle.kfs_model.proofs.Differences.{differences_only, get-differences}
use Rattle.kfs_model.proofs.Tables.{left_part, right_part, find_below}
use Rattle.kfs_types.specs.Views.{header_of, name_row_of, node_row_of}
use Rattle.kfs_types.specs.declared.plan.NameRow.{NameRow}
use Rattle.kfs_types.specs.declared.plan.NodeRow.{NodeRow}
use Rattle.kfs_image_nodes.specs.Contents.{Contents, contents_in}
use Rattle.kfs_image_nodes.specs.Change.{led_to, renamed, reheaded, after_rows}

-- what a row puts in place of what stands at its key, where there is a row
abbrev replaced : {X Y : Type 0} → (Y → Option X) → Option Y → Option X → Option X
replaced shown None there = there
replaced shown (Some y) there = shown y

module _ {K X Y Z : Type 0} (R : Order K) (keyed : Z → K × Y) (shown : Y → Option X) where
  -- the table after the rows, one after the other
  unfoldable put_rows : Table R X → List Z → Table R X
  put_rows t [] = t
  put_rows t (row ∷ rows) = put_rows (changed t (keyed row).0 (shown (keyed row).1)) rows

  at_row : (t : Table R X) (row : Z) (rows : List Z) (key : K) → find R.compare (keyed row).0 (map keyed rows) ≡ None
      → replaced shown (find R.compare key (map keyed rows)) (get (changed t (keyed row).0 (shown (keyed row).1)) key)
      ≡ replaced shown (find R.compare key (keyed row ∷ map keyed rows)) (get t key)
  at_row t row rows key none =
      ap (replaced shown (find R.compare key (map keyed rows))) (get-changed t (keyed row).0 (shown (keyed row).1) key) ∙ by (R.compare key (keyed row).0) refl
    where
      by : (o : Ordering) → R.compare key (keyed row).0 ≡ o
          → replaced shown (find R.compare key (map keyed rows)) (cond (is_eq o) (shown (keyed row).1) (get t key)) ≡ replaced shown (cond (is_eq o) (Some (keyed row).1) (find R.compare key (map keyed rows))) (get t key)
      by Less tie = refl
      by Equal tie =
          let here : find R.compare key (map keyed rows) ≡ None = subst (λ k. find R.compare k (map keyed rows) ≡ None) (sym (R.exact key (keyed row).0 tie)) none in
          ap (λ o. replaced shown o (shown (keyed row).1)) here
      by Greater tie = refl

  get-put_rows : (t : Table R X) (rows : List Z) → T (is_sorted R.compare (map keyed rows)) → (key : K) → get (put_rows t rows) key ≡ replaced shown (find R.compare key (map keyed rows)) (get t key)
  unfolding put_rows
  get-put_rows t [] sorted key = refl
  get-put_rows t (row ∷ rows) sorted key =
      get-put_rows (changed t (keyed row).0 (shown (keyed row).1)) rows (right_part _ _ sorted) key
      ∙ at_row t row rows key (find_below R (keyed row).0 (map keyed rows) (left_part _ _ sorted))

module _ {K X Y Z : Type 0} {R : Order K} (keyed : Z → K × Y) (shown : Y → Option X) (same : X → X → Bool) (exact : IsExact same) (now : Option X → Y) where
  -- what the rows show at a key that differs is what stands there afterwards
  rows_make : (before after : Table R X) (rows : List Z) → AreDifferences R now (get before) (get after) (map keyed rows) → ((key : K) → shown (now (get after key)) ≡ get after key) → put_rows R keyed shown before rows ≡ after
  unfolding get
  rows_make before after rows differ back =
      same_table _ _ (λ key.
      get-put_rows R keyed shown before rows (passes _ differ.ascending) key
      ∙ ap (λ es. replaced shown (find R.compare key es) (get before key)) (differences_only same exact now before after (map keyed rows) differ)
      ∙ ap (λ o. replaced shown o (get before key)) (get-differences same now before after key)
      ∙ by key (same_option same (get before key) (get after key)) ((options-exact same exact).decides (get before key) (get after key)))
    where
      by : (key : K) (test : Bool) → Decides test (get before key ≡ get after key) → replaced shown (cond test None (Some (now (get after key)))) (get before key) ≡ get after key
      by key true decides = decides.0 refl
      by key false decides = back key

-- ---- a net's names and headers

abbrev keyed_name_row : NameRow (List ℕ) → (ℕ × List ℕ) × ℕ
keyed_name_row row = keyed_name (name_row_of row)

abbrev keyed_node_row : NodeRow → ℕ × Option Header
keyed_node_row row = keyed_node (node_row_of row)

renamed_is : (names : NameTable) (rows : List (NameRow (List ℕ))) → renamed names rows ≡ put_rows name_order keyed_name_row led_to names rows
unfolding put_rows
renamed_is names [] = refl
renamed_is names (row ∷ rows) = renamed_is (changed names (row.dir, row.name) (led_to row.number)) rows

reheaded_is : (heads : Table numbers Header) (rows : List NodeRow) → reheaded heads rows ≡ put_rows numbers keyed_node_row header_now heads rows
unfolding put_rows
reheaded_is heads [] = refl
reheaded_is heads (row ∷ rows) = reheaded_is (changed heads row.number (option_map header_of row.now)) rows

-- no name of a sound tree leads to 0
pub led_back : (after : Tree ℕ) → IsSound after → (key : ℕ × List ℕ) → led_to (number_now (get after.names key)) ≡ get after.names key
led_back after sound key = by (get after.names key) refl
  where
    by : (o : Option ℕ) → get after.names key ≡ o → led_to (number_now o) ≡ o
    by None is = refl
    by (Some n) is =
        let name = sound.names_sound key.0 key.1 n is in
        let least = (sound.ranges n name.node.0 name.node.1).least in
        let other : n ≢ 0 = λ zero_is. absurd (omega (arith, zero_is)) in
        ap (λ b. cond b None (Some n)) (ne_eqb n 0 other)

-- the rows that differ, put into contents, make the contents of the tree after
pub net_makes : (c : Contents) (after : Tree ℕ) (names : List (NameRow (List ℕ))) (nodes : List NodeRow) → IsSound after
    → AreDifferences name_order number_now (get c.names) (get after.names) (map keyed_name_row names)
    → AreDifferences numbers header_now (get c.heads) (get (headers after)) (map keyed_node_row nodes)
    → after_rows c names nodes ≡ contents_in after
net_makes c after names nodes sound names_differ nodes_differ =
    let heads_are : reheaded c.heads nodes ≡ headers after = reheaded_is c.heads nodes ∙ rows_make keyed_node_row header_now same_header headers-exact header_now c.heads (headers after) nodes nodes_differ (λ key. refl) in
    let names_are : renamed c.names names ≡ after.names = renamed_is c.names names ∙ rows_make keyed_name_row led_to nat_eq numbers-exact number_now c.names after.names names names_differ (led_back after sound) in
    λ i. record { heads = heads_are i; names = names_are i }
