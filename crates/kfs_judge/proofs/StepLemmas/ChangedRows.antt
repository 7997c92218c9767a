-- The rows of a draft are the differences between what its keys show before and now.
use Rattle.std.specs.Prelude.{◌≡◌, ◌≢◌, ℕ, nat_eq, Bool, true, false, cond, T, ◌&&◌, List, [], ◌∷◌, ◌++◌, map, Option, Some, None, unwrap_or, refl}
use Rattle.std.specs.declared.cmp.Ordering.{Ordering}
use Rattle.std.specs.declared.cmp.Ordering.TheVariants.{Less, Equal, Greater}
use Rattle.std.specs.Ordering.{is_eq, is_lt}
use Rattle.std.specs.List.{AllByRecursion}
use Rattle.std.specs.List.Sorted.{IsStrictlySortedBy}
use Rattle.std.specs.Map.{lookup}
use Rattle.std.specs.BTreeMap.{is_at}
use Rattle.std.specs.FinMap.Entries.{find, is_sorted, below_all}
use Rattle.std.proofs.Common.{ap, sym, subst, ◌∙◌, append_assoc, append-nil}
use Rattle.kfs_model.specs.Header.{Header}
use Rattle.kfs_model.specs.Table.{Order, numbers}
use Rattle.kfs_model.specs.FirstWrong.{same_option, same_header}
use Rattle.kfs_model.specs.Plan.{AreDifferences, number_now, header_now}
use Rattle.kfs_model.proofs.Exact.{IsExact, options-exact, numbers-exact, headers-exact}
use Rattle.kfs_model.proofs.Tables.{left_part, right_part, find_tie, find_below}
use Rattle.kfs_judge.specs.Step.Rows.{IsRow, keyed_name_row, keyed_node_row}
use Rattle.kfs_judge.specs.Step.Nets.{AreNamesOf, AreNodesOf}
use Rattle.kfs_judge_reads.specs.Draft.Overlay.{over}
use Rattle.kfs_judge_reads.specs.declared.draft.draft.Draft.{Draft}
use Rattle.kfs_judge_reads.specs.Draft.Few.{entries_of, list_of}
use Rattle.kfs_types.specs.Views.{header_of}
use Rattle.kfs_types.specs.declared.entry.Header.{Header as CodeHeader}
use Rattle.kfs_types.specs.declared.plan.NameRow.{NameRow as CodeNameRow}
use Rattle.kfs_types.specs.declared.plan.NodeRow.{NodeRow as CodeNodeRow}
use Rattle.kfs_model.specs.Tree.{name_order}
use Rattle.kfs_model.specs.Sight.{Sight}
use Rattle.std.specs.Option.{option_map}

-- the rows of entries: those at whose keys something else stood before
module _ {K X Y : Type 0} (same : X → X → Bool) (now : Option X → Y) (before : K → Option X) where
  unfoldable pub changed_rows : List (K × Option X) → List (K × Y)
  changed_rows [] = []
  changed_rows (e ∷ es) = elim (same_option same (before e.0) e.1) [ true ↦ changed_rows es | false ↦ (e.0, now e.1) ∷ changed_rows es ]

-- headers by number, as the definitions have them
abbrev pub shown_heads : List (ℕ × Option CodeHeader) → List (ℕ × Option Header)
shown_heads entries = map (λ e. (e.0, option_map header_of e.1)) entries

true_is_false : true ≡ false → ⊥
true_is_false e = cc

truth : (b : Bool) → T b → b ≡ true
truth true t = refl
truth false t = absurd t

module _ {K X Y : Type 0} (same : X → X → Bool) (exact : IsExact same) (now : Option X → Y) (before : K → Option X) where
  by_test : (e : K × Option X) (es : List (K × Option X)) (test : Bool) → same_option same (before e.0) e.1 ≡ test → changed_rows same now before (e ∷ es) ≡ elim test [ true ↦ changed_rows same now before es | false ↦ (e.0, now e.1) ∷ changed_rows same now before es ]
  unfolding changed_rows
  by_test e es test is = ap (λ (b : Bool). elim b as (λ _. List (K × Y)) [ true ↦ changed_rows same now before es | false ↦ (e.0, now e.1) ∷ changed_rows same now before es ]) is

  pub changed-same : (e : K × Option X) (es : List (K × Option X)) → before e.0 ≡ e.1 → changed_rows same now before (e ∷ es) ≡ changed_rows same now before es
  changed-same e es is = by_test e es true (((options-exact same exact).decides (before e.0) e.1).1 is)

  not_true : (b : Bool) → b ≢ true → b ≡ false
  not_true true h = absurd (h refl)
  not_true false h = refl

  pub changed-differs : (e : K × Option X) (es : List (K × Option X)) → before e.0 ≢ e.1 → changed_rows same now before (e ∷ es) ≡ (e.0, now e.1) ∷ changed_rows same now before es
  changed-differs e es other = by_test e es false (not_true _ (λ t. other (((options-exact same exact).decides (before e.0) e.1).0 t)))

  pub changed-none : changed_rows same now before [] ≡ []
  unfolding changed_rows
  changed-none = refl

  module _ (R : Order K) where
    -- what stands at the key now
    abbrev pub shown_at : List (K × Option X) → K → Option X
    shown_at es key = unwrap_or (find R.compare key es) (before key)

    both : (a b : Bool) → T a → T b → T (a && b)
    both true b p q = q
    both false b p q = p

    below-changed : (key : K) (es : List (K × Option X)) → T (below_all R.compare key es) → T (below_all R.compare key (changed_rows same now before es))
    below-changed key [] below = subst (λ rows. T (below_all R.compare key rows)) (sym changed-none) tt
    below-changed key (e ∷ es) below = at (same_option same (before e.0) e.1) refl (below-changed key es (right_part _ _ below))
      where
        at : (test : Bool) → same_option same (before e.0) e.1 ≡ test → T (below_all R.compare key (changed_rows same now before es)) → T (below_all R.compare key (changed_rows same now before (e ∷ es)))
        at true is rest = subst (λ rows. T (below_all R.compare key rows)) (sym (by_test e es true is)) rest
        at false is rest = subst (λ rows. T (below_all R.compare key rows)) (sym (by_test e es false is)) (both _ _ (left_part _ _ below) rest)

    sorted-changed : (es : List (K × Option X)) → T (is_sorted R.compare es) → T (is_sorted R.compare (changed_rows same now before es))
    sorted-changed [] sorted = subst (λ rows. T (is_sorted R.compare rows)) (sym changed-none) tt
    sorted-changed (e ∷ es) sorted = at (same_option same (before e.0) e.1) refl (sorted-changed es (right_part _ _ sorted))
      where
        at : (test : Bool) → same_option same (before e.0) e.1 ≡ test → T (is_sorted R.compare (changed_rows same now before es)) → T (is_sorted R.compare (changed_rows same now before (e ∷ es)))
        at true is rest = subst (λ rows. T (is_sorted R.compare rows)) (sym (by_test e es true is)) rest
        at false is rest = subst (λ rows. T (is_sorted R.compare rows)) (sym (by_test e es false is)) (both _ _ (below-changed e.0 es (left_part _ _ sorted)) rest)

    abbrev Finds : List (K × Option X) → K → Type 0
    Finds es key = (before key ≢ shown_at es key → find R.compare key (changed_rows same now before es) ≡ Some (now (shown_at es key))) × (before key ≡ shown_at es key → find R.compare key (changed_rows same now before es) ≡ None)

    -- another key than the first entry's: what stands behind it counts
    finds_behind : (e : K × Option X) (es : List (K × Option X)) (key : K) → Finds es key → (o : Ordering) → R.compare key e.0 ≡ o → is_eq o ≡ false → (test : Bool) → same_option same (before e.0) e.1 ≡ test → Finds (e ∷ es) key
    finds_behind e es key rest o p apart test is = (λ other. rows test is ∙ rest.0 (λ s. other (s ∙ sym shown)) ∙ ap (λ t. Some (now t)) (sym shown), λ equal. rows test is ∙ rest.1 (equal ∙ shown))
      where
        shown : shown_at (e ∷ es) key ≡ shown_at es key
        shown = ap (λ f. unwrap_or f (before key)) (find_tie R key e es o p ∙ ap (λ b. cond b (Some e.1) (find R.compare key es)) apart)

        rows : (test' : Bool) → same_option same (before e.0) e.1 ≡ test' → find R.compare key (changed_rows same now before (e ∷ es)) ≡ find R.compare key (changed_rows same now before es)
        rows true is' = ap (find R.compare key) (by_test e es true is')
        rows false is' = ap (find R.compare key) (by_test e es false is') ∙ find_tie R key (e.0, now e.1) (changed_rows same now before es) o p ∙ ap (λ b. cond b (Some (now e.1)) (find R.compare key (changed_rows same now before es))) apart

    -- the first entry's own key
    finds_first : (e : K × Option X) (es : List (K × Option X)) (key : K) → T (is_sorted R.compare (e ∷ es)) → R.compare key e.0 ≡ Equal → (test : Bool) → same_option same (before e.0) e.1 ≡ test → Finds (e ∷ es) key
    finds_first e es key sorted p test is = by test is
      where
        keys : key ≡ e.0
        keys = R.exact key e.0 p

        shown : shown_at (e ∷ es) key ≡ e.1
        shown = ap (λ f. unwrap_or f (before key)) (find_tie R key e es Equal p)

        by : (test' : Bool) → same_option same (before e.0) e.1 ≡ test' → Finds (e ∷ es) key
        by true is' =
            let equal : before key ≡ e.1 = ap before keys ∙ ((options-exact same exact).decides (before e.0) e.1).0 is' in
            let none = ap (find R.compare key) (by_test e es true is') ∙ find_below R key (changed_rows same now before es) (subst (λ k. T (below_all R.compare k (changed_rows same now before es))) (sym keys) (below-changed e.0 es (left_part _ _ sorted))) in
            (λ other. absurd (other (equal ∙ sym shown)), λ _. none)
        by false is' =
            let some = ap (find R.compare key) (by_test e es false is') ∙ find_tie R key (e.0, now e.1) (changed_rows same now before es) Equal p in
            (λ _. some ∙ ap (λ t. Some (now t)) (sym shown), λ equal. absurd (true_is_false (sym (((options-exact same exact).decides (before e.0) e.1).1 (ap before (sym keys) ∙ equal ∙ shown)) ∙ is')))

    by_order : (e : K × Option X) (es : List (K × Option X)) (key : K) → T (is_sorted R.compare (e ∷ es)) → Finds es key → (o : Ordering) → R.compare key e.0 ≡ o → Finds (e ∷ es) key
    by_order e es key sorted rest Less p = finds_behind e es key rest Less p refl (same_option same (before e.0) e.1) refl
    by_order e es key sorted rest Equal p = finds_first e es key sorted p (same_option same (before e.0) e.1) refl
    by_order e es key sorted rest Greater p = finds_behind e es key rest Greater p refl (same_option same (before e.0) e.1) refl

    finds : (es : List (K × Option X)) → T (is_sorted R.compare es) → (key : K) → Finds es key
    finds [] sorted key = (λ other. absurd (other refl), λ _. ap (find R.compare key) changed-none)
    finds (e ∷ es) sorted key = by_order e es key sorted (finds es (right_part _ _ sorted) key) (R.compare key e.0) refl

    pub changed-differences : (es : List (K × Option X)) → T (is_sorted R.compare es) → AreDifferences R now before (shown_at es) (changed_rows same now before es)
    changed-differences es sorted = record {
      ascending = truth _ (sorted-changed es sorted);
      changed = λ key other. (finds es sorted key).0 other;
      unchanged = λ key equal. (finds es sorted key).1 equal;
    }

  -- ---- one more entry

  module _ {Z : Type 0} (shown : Z → K × Y) where
    pub rows_same : (rows : List Z) (e : K × Option X) (left rest : List (K × Option X)) (all : List (K × Y)) → left ≡ e ∷ rest → before e.0 ≡ e.1 → map shown rows ++ changed_rows same now before left ≡ all → map shown rows ++ changed_rows same now before rest ≡ all
    rows_same rows e left rest all is equal so_far = ap (λ xs. map shown rows ++ xs) (sym (ap (changed_rows same now before) is ∙ changed-same e rest equal)) ∙ so_far

    map-push : (rows : List Z) (row : Z) → map shown (rows ++ row ∷ []) ≡ map shown rows ++ shown row ∷ []
    map-push [] row = refl
    map-push (r ∷ rows) row = ap (λ xs. shown r ∷ xs) (map-push rows row)

    pub rows_more : (rows pushed : List Z) (row : Z) (e : K × Option X) (left rest : List (K × Option X)) (all : List (K × Y)) → pushed ≡ rows ++ row ∷ [] → left ≡ e ∷ rest → (before e.0 ≢ e.1) × (shown row ≡ (e.0, now e.1)) → map shown rows ++ changed_rows same now before left ≡ all → map shown pushed ++ changed_rows same now before rest ≡ all
    rows_more rows pushed row e left rest all is_pushed is (differs, says) so_far =
        ap (λ xs. map shown xs ++ changed_rows same now before rest) is_pushed
        ∙ ap (λ xs. xs ++ changed_rows same now before rest) (map-push rows row ∙ ap (λ r. map shown rows ++ r ∷ []) says)
        ∙ append_assoc (map shown rows) ((e.0, now e.1) ∷ []) (changed_rows same now before rest)
        ∙ ap (λ xs. map shown rows ++ xs) (sym (ap (changed_rows same now before) is ∙ changed-differs e rest differs))
        ∙ so_far

    pub rows_all : (rows : List Z) (left : List (K × Option X)) (all : List (K × Y)) → left ≡ [] → map shown rows ++ changed_rows same now before left ≡ all → map shown rows ≡ all
    rows_all rows left all none so_far = sym (append-nil (map shown rows)) ∙ ap (λ xs. map shown rows ++ xs) (sym (ap (changed_rows same now before) none ∙ changed-none)) ∙ so_far

    -- the rows of a single entry
    pub rows_of_one : (row : Option Z) (rows : List Z) (e : K × Option X) → rows ≡ list_of row → IsRow now shown e.0 (before e.0) e.1 row → map shown rows ≡ changed_rows same now before (e ∷ [])
    rows_of_one None rows e is equal = rows_all rows [] _ refl (rows_same rows e (e ∷ []) [] _ refl equal (ap (λ xs. map shown xs ++ changed_rows same now before (e ∷ [])) is))
    rows_of_one (Some row) rows e is differs = rows_all rows [] _ refl (rows_more [] rows row e (e ∷ []) [] _ is refl differs refl)

-- ---- entries of the code's maps

module _ {K X : Type 0} (R : Order K) where
  -- a map finds what its entries have at the key
  pub find-lookup : (key : K) (es : List (K × X)) → lookup (is_at (R.compare key)) es ≡ find R.compare key es
  find-lookup key [] = refl
  find-lookup key (e ∷ es) = ap (λ rest. cond (is_eq (R.compare key e.0)) (Some e.1) rest) (find-lookup key es)

  below_by_less : (key : K) (es : List (K × X)) → AllByRecursion (λ k. R.compare key k ≡ Less) (map (λ e. e.0) es) → T (below_all R.compare key es)
  below_by_less key [] less = tt
  below_by_less key (e ∷ es) less = subst (λ o. T (is_lt o && below_all R.compare key es)) (sym less.0) (below_by_less key es less.1)

  pub sorted-entries : (es : List (K × X)) → IsStrictlySortedBy R.compare (map (λ e. e.0) es) → T (is_sorted R.compare es)
  unfolding IsStrictlySortedBy
  sorted-entries [] sorted = tt
  sorted-entries (e ∷ es) sorted = joined _ _ (below_by_less e.0 es sorted.0) (sorted-entries es sorted.1)
    where
      joined : (a b : Bool) → T a → T b → T (a && b)
      joined true b p q = q
      joined false b p q = p

-- ---- what a draft's maps show

module _ {A : Type 0} (draft : Draft A) (s : Sight) where
  pub names-differ : IsStrictlySortedBy name_order.compare (map (λ e. e.0) (entries_of draft.names)) → (rows : List (CodeNameRow (List ℕ))) → map keyed_name_row rows ≡ changed_rows nat_eq number_now (λ key. s.name key.0 key.1) (entries_of draft.names) → AreNamesOf s (over draft s) rows
  names-differ ordered rows is =
      let differ = changed-differences nat_eq numbers-exact number_now (λ key. s.name key.0 key.1) name_order (entries_of draft.names) (sorted-entries name_order (entries_of draft.names) ordered) in
      let shown : (key : ℕ × List ℕ) → unwrap_or (find name_order.compare key (entries_of draft.names)) (s.name key.0 key.1) ≡ (over draft s).name key.0 key.1 = λ key. ap (λ f. unwrap_or f (s.name key.0 key.1)) (sym (find-lookup name_order key (entries_of draft.names))) in
      subst (λ rs. AreDifferences name_order number_now (λ key. s.name key.0 key.1) (λ key. (over draft s).name key.0 key.1) rs) (sym is)
      (subst (λ after. AreDifferences name_order number_now (λ key. s.name key.0 key.1) after (changed_rows nat_eq number_now (λ key. s.name key.0 key.1) (entries_of draft.names))) (λ i key. shown key i) differ)

  keys-shown_heads : (es : List (ℕ × Option CodeHeader)) → map (λ e. e.0) (shown_heads es) ≡ map (λ e. e.0) es
  keys-shown_heads [] = refl
  keys-shown_heads (e ∷ es) = ap (λ ks. e.0 ∷ ks) (keys-shown_heads es)

  find-shown_heads : (n : ℕ) (es : List (ℕ × Option CodeHeader)) → find numbers.compare n (shown_heads es) ≡ option_map (option_map header_of) (find numbers.compare n es)
  find-shown_heads n [] = refl
  find-shown_heads n (e ∷ es) = at (is_eq (numbers.compare n e.0)) (find-shown_heads n es)
    where
      at : (b : Bool) → find numbers.compare n (shown_heads es) ≡ option_map (option_map header_of) (find numbers.compare n es) → cond b (Some (option_map header_of e.1)) (find numbers.compare n (shown_heads es)) ≡ option_map (option_map header_of) (cond b (Some e.1) (find numbers.compare n es))
      at true rest = refl
      at false rest = rest

  pub heads-differ : IsStrictlySortedBy numbers.compare (map (λ e. e.0) (entries_of draft.heads)) → (rows : List CodeNodeRow) → map keyed_node_row rows ≡ changed_rows same_header header_now s.head (shown_heads (entries_of draft.heads)) → AreNodesOf s (over draft s) rows
  heads-differ ordered rows is =
      let keys = sym (keys-shown_heads (entries_of draft.heads)) in
      let sorted = sorted-entries numbers (shown_heads (entries_of draft.heads)) (subst (IsStrictlySortedBy numbers.compare) keys ordered) in
      let differ = changed-differences same_header headers-exact header_now s.head numbers (shown_heads (entries_of draft.heads)) sorted in
      let shown : (n : ℕ) → unwrap_or (find numbers.compare n (shown_heads (entries_of draft.heads))) (s.head n) ≡ (over draft s).head n = λ n. ap (λ f. unwrap_or f (s.head n)) (find-shown_heads n (entries_of draft.heads) ∙ ap (option_map (option_map header_of)) (sym (find-lookup numbers n (entries_of draft.heads)))) in
      subst (λ rs. AreDifferences numbers header_now s.head (over draft s).head rs) (sym is)
      (subst (λ after. AreDifferences numbers header_now s.head after (changed_rows same_header header_now s.head (shown_heads (entries_of draft.heads)))) (λ i n. shown n i) differ)
