-- The rows of one client, listed one behind another, in the order of all.
use Rattle.std.proofs.Common.{◌≡◌, ℕ, ◌-◌, ◌<◌, ◌≤◌, ◌==◌, ◌&&◌, Bool, true, false, cond, List, [], ◌∷◌, ◌++◌, filter, length, map, Option, Some, None, refl, sym, ap, subst, ◌∙◌, eq-eqb, arith}
use Rattle.std.specs.Prelude.{is_some, nat_le, SomeIff}
use Rattle.std.specs.List.{AllByRecursion}
use Rattle.std.specs.List.Sorted.{IsStrictlySortedBy}
use Rattle.std.specs.Map.{keys_of}
use Rattle.std.specs.declared.cmp.Ordering.{Ordering}
use Rattle.std.specs.declared.cmp.Ordering.TheVariants.{Less, Equal, Greater}
use Rattle.std.specs.Ordering.{nat_cmp, is_lt, is_gt, eq_by_cmp, ordering_reverse}
use Rattle.std.specs.Cmp.{eq_by_cmp_equiv, tied_itself}
use Rattle.std.specs.FinMap.Entries.{find}
use Rattle.std.proofs.lemmas.Bool.{and_from, both_ways}
use Rattle.std.proofs.lemmas.Bool.Decides.{nat_tests}
use Rattle.std.proofs.lemmas.Cmp.{ranked}
use Rattle.std.proofs.lemmas.Option.{same_Some}
use borrow.Author.Tests.{eqb-true}
use Rattle.kfs_model.specs.Lease.{LeaseTable}
use Rattle.kfs_model.specs.Table.{get, insert}
use Rattle.kfs_lease.specs.declared.rows.rows.Lease.{Lease}
use Rattle.kfs_lease.specs.LeaseLists.{AreFirstOf, Ascend, LeaseRow, is_before, is_own, listed_table}
use Rattle.kfs_lease.specs.Rows.Ending.{start_on}
use Rattle.kfs_lease.specs.Rows.OfClients.{IsNextOf, NoneOf, is_behind}
use Rattle.kfs_lease.specs.Rows.Rows.{by_client, by_node, kind_of, lease_of, shown, table_of, RowTable}
use Rattle.kfs_lease.proofs.ListLemmas.WalkedRows.{before_by_key, none_ascend}
use Rattle.kfs_lease.proofs.RowsLemmas.Conflicts.{sorted_keys}
use Rattle.kfs_lease.proofs.RowsLemmas.KeyOrder.{from_first, same_first, turned_compare}
use Rattle.kfs_lease.proofs.RowsLemmas.RowTables.{tied}
use Rattle.kfs_lease.proofs.RowsLemmas.Walks.{still_from}

abbrev Entry : Type 0
Entry = (ℕ × ℕ) × Lease

abbrev pub row_at : Entry → LeaseRow
row_at e = record { number = e.0.0; client = e.0.1; kind = kind_of e.1.kind; end = e.1.end }

abbrev pub rows_at : List Entry → List LeaseRow
rows_at es = map row_at es

-- ---- all rows

table_at : (es : List Entry) → listed_table (rows_at es) ≡ table_of es
unfolding table_of
table_at [] = refl
table_at (e ∷ es) = ap (λ (t : LeaseTable). insert t (e.0.1, e.0.0) (lease_of e.1)) (table_at es)

each_behind : (x : LeaseRow) (es : List Entry) → AllByRecursion (λ k. by_node.compare (x.number, x.client) k ≡ Less) (keys_of es) → (before : List LeaseRow) (row : LeaseRow) (rest : List LeaseRow)
    → rows_at es ≡ before ++ row ∷ rest → is_before x row ≡ true
each_behind x [] all [] row rest is = cc
each_behind x [] all (b ∷ before) row rest is = cc
each_behind x (e ∷ es) all [] row rest is = let same : row_at e ≡ row = cc in subst (λ r. is_before x r ≡ true) same (before_by_key x (row_at e) all.0)
each_behind x (e ∷ es) all (b ∷ before) row rest is = let later : rows_at es ≡ before ++ row ∷ rest = cc in each_behind x es all.1 before row rest later

rows_ascend : (es : List Entry) → IsStrictlySortedBy by_node.compare (keys_of es) → Ascend (rows_at es)
unfolding IsStrictlySortedBy
rows_ascend [] sorted before row rest is = none_ascend before row rest is
rows_ascend (e ∷ es) sorted [] row rest is = refl
rows_ascend (e ∷ es) sorted (b ∷ before) row rest is =
    let first : row_at e ≡ b = cc in
    let later : rows_at es ≡ before ++ row ∷ rest = cc in
    and_from _ _ (subst (λ r. is_before r row ≡ true) first (each_behind (row_at e) es sorted.0 before row rest later)) (rows_ascend es sorted.1 before row rest later)

-- ---- one client's rows

-- whether the row is the client's, behind that node
abbrev pub is_later : (client : ℕ) → (after : Option ℕ) → LeaseRow → Bool
is_later client after row = (row.client == client) && is_behind client after row.number

abbrev pub later_rows : (client : ℕ) → (after : Option ℕ) → List Entry → List LeaseRow
later_rows client after es = filter (is_later client after) (rows_at es)

-- what holds of all keys holds of one that is found
holds_of_found : (P : ℕ × ℕ → Type 0) (es : List Entry) → AllByRecursion P (keys_of es) → (q : ℕ × ℕ) (lease : Lease) → find by_node.compare q es ≡ Some lease → P q
holds_of_found P [] all q lease found = cc
holds_of_found P (e ∷ es) all q lease found = at (eq_by_cmp by_node.compare q e.0) refl found (holds_of_found P es all.1 q lease)
  where
    at : (b : Bool) → eq_by_cmp by_node.compare q e.0 ≡ b → cond b (Some e.1) (find by_node.compare q es) ≡ Some lease → (find by_node.compare q es ≡ Some lease → P q) → P q
    at true tie is further = subst P (sym (tied by_node q e.0 tie)) all.0
    at false apart is further = further is

module _ (client : ℕ) (after : Option ℕ) where
  -- the first entry, where it is the client's
  at_head : (e : Entry) (es : List Entry) → e.0.1 ≡ client → find by_node.compare (e.0.0, client) (e ∷ es) ≡ Some e.1
  at_head e es own = ap (λ b. cond b (Some e.1) (find by_node.compare (e.0.0, client) es)) (ap (λ c. eq_by_cmp by_node.compare (e.0.0, c) e.0) (sym own) ∙ (eq_by_cmp_equiv by_node.total).refl e.0)

  -- where no row of the client is behind that node, none is listed
  none_later : (es : List Entry) → ((n : ℕ) → is_behind client after n ≡ true → find by_node.compare (n, client) es ≡ None) → later_rows client after es ≡ []
  none_later [] none = refl
  none_later (e ∷ es) none =
      ap (λ b. cond b (row_at e ∷ later_rows client after es) (later_rows client after es)) (at (e.0.1 == client) (is_behind client after e.0.0) refl refl)
      ∙ none_later es (λ n behind. past (eq_by_cmp by_node.compare (n, client) e.0) (find by_node.compare (n, client) es) (none n behind))
    where
      at : (a b : Bool) → (e.0.1 == client) ≡ a → is_behind client after e.0.0 ≡ b → (a && b) ≡ false
      at true true own behind = let never : Some e.1 ≡ None = sym (at_head e es (eqb-true e.0.1 client own)) ∙ none e.0.0 behind in cc
      at true false own behind = refl
      at false b own behind = refl

      past : (b : Bool) (o : Option Lease) → cond b (Some e.1) o ≡ None → o ≡ None
      past true o is = cc
      past false o is = is

  module _ (node : ℕ) (within : is_behind client after node ≡ true) where
    -- rows behind the one on this node are behind the start, too
    behind_both : (e : Entry) → by_node.compare (node, client) e.0 ≡ Less → is_later client after (row_at e) ≡ is_later client (Some node) (row_at e)
    behind_both e less = at (e.0.1 == client) refl
      where
        at : (b : Bool) → (e.0.1 == client) ≡ b → (b && is_behind client after e.0.0) ≡ (b && is_behind client (Some node) e.0.0)
        at false other = refl
        at true own =
            let later : by_client.compare (client, node) (client, e.0.0) ≡ Less = sym (turned_compare node e.0.0 client) ∙ ap (λ c. by_node.compare (node, client) (e.0.0, c)) (sym (eqb-true e.0.1 client own)) ∙ less in
            still_from by_client (start_on client after) (client, node) (client, e.0.0) later within (is_behind client after e.0.0) refl
            ∙ sym (ap is_gt (by_client.total.antisymm (client, e.0.0) (client, node) ∙ ap ordering_reverse later))

    all_behind : (es : List Entry) → AllByRecursion (λ k. by_node.compare (node, client) k ≡ Less) (keys_of es) → later_rows client after es ≡ later_rows client (Some node) es
    all_behind [] all = refl
    all_behind (e ∷ es) all = λ i. cond (behind_both e all.0 i) (row_at e ∷ all_behind es all.1 i) (all_behind es all.1 i)

    -- the client's next row comes first, and then those behind it
    next_first : (es : List Entry) → IsStrictlySortedBy by_node.compare (keys_of es) → (lease : Lease) → find by_node.compare (node, client) es ≡ Some lease
        → ((n : ℕ) → is_behind client after n ≡ true → is_some (find by_node.compare (n, client) es) ≡ true → is_lt (by_client.compare (client, n) (client, node)) ≡ false)
        → later_rows client after es ≡ row_at ((node, client), lease) ∷ later_rows client (Some node) es
    unfolding IsStrictlySortedBy
    next_first [] sorted lease found least = cc
    next_first (e ∷ es) sorted lease found least = at (eq_by_cmp by_node.compare (node, client) e.0) refl found (next_first es sorted.1 lease)
      where
        row : LeaseRow
        row = row_at ((node, client), lease)

        here : (node, client) ≡ e.0 → Some e.1 ≡ Some lease → later_rows client after (e ∷ es) ≡ row ∷ later_rows client (Some node) (e ∷ es)
        here key is =
            let own : (e.0.1 == client) ≡ true = eq-eqb e.0.1 client (sym (ap (λ (k : ℕ × ℕ). k.1) key)) in
            let from : is_behind client after e.0.0 ≡ true = ap (λ (k : ℕ × ℕ). is_behind client after k.0) (sym key) ∙ within in
            let not_behind : is_behind client (Some node) e.0.0 ≡ false = ap (λ (k : ℕ × ℕ). is_behind client (Some node) k.0) (sym key) ∙ ap is_gt (tied_itself by_client.total (client, node)) in
            ap (λ b. cond b (row_at e ∷ later_rows client after es) (later_rows client after es)) (and_from _ _ own from)
            ∙ (λ i. row_at (sym key i, same_Some _ _ is i) ∷ all_behind es (subst (λ k. AllByRecursion (λ q. by_node.compare k q ≡ Less) (keys_of es)) (sym key) sorted.0) i)
            ∙ sym (ap (λ b. row ∷ cond b (row_at e ∷ later_rows client (Some node) es) (later_rows client (Some node) es)) ((λ i. own i && not_behind i)))

        -- an entry before it is another client's, or before the start
        neither : by_node.compare e.0 (node, client) ≡ Less → (b : Bool) → (e.0.1 == client) ≡ b → ((b && is_behind client after e.0.0) ≡ false) × ((b && is_behind client (Some node) e.0.0) ≡ false)
        neither below false other = (refl, refl)
        neither below true own =
            let same : e.0.1 ≡ client = eqb-true e.0.1 client own in
            let less : by_client.compare (client, e.0.0) (client, node) ≡ Less = sym (turned_compare e.0.0 node client) ∙ ap (λ c. by_node.compare (e.0.0, c) (node, client)) (sym same) ∙ below in
            (by same less (is_behind client after e.0.0) refl, ap is_gt less)
          where
            by : e.0.1 ≡ client → by_client.compare (client, e.0.0) (client, node) ≡ Less → (b : Bool) → is_behind client after e.0.0 ≡ b → is_behind client after e.0.0 ≡ false
            by same less false out = out
            by same less true from = absurd (both_ways _ (least e.0.0 from (ap is_some (at_head e es same))) (ap is_lt less))

        more : (b : Bool) (o : Option Lease) → is_some o ≡ true → is_some (cond b (Some e.1) o) ≡ true
        more true o is = refl
        more false o is = is

        at : (b : Bool) → eq_by_cmp by_node.compare (node, client) e.0 ≡ b → cond b (Some e.1) (find by_node.compare (node, client) es) ≡ Some lease
            → (find by_node.compare (node, client) es ≡ Some lease → ((n : ℕ) → is_behind client after n ≡ true → is_some (find by_node.compare (n, client) es) ≡ true → is_lt (by_client.compare (client, n) (client, node)) ≡ false) → later_rows client after es ≡ row ∷ later_rows client (Some node) es)
            → later_rows client after (e ∷ es) ≡ row ∷ later_rows client (Some node) (e ∷ es)
        at true tie is further = here (tied by_node (node, client) e.0 tie) is
        at false apart is further =
            let (first, second) = neither (holds_of_found (λ k. by_node.compare e.0 k ≡ Less) es sorted.0 (node, client) lease is) (e.0.1 == client) refl in
            ap (λ b. cond b (row_at e ∷ later_rows client after es) (later_rows client after es)) first
            ∙ further is (λ n from there. least n from (more (eq_by_cmp by_node.compare (n, client) e.0) (find by_node.compare (n, client) es) there))
            ∙ sym (ap (λ b. row ∷ cond b (row_at e ∷ later_rows client (Some node) es) (later_rows client (Some node) es)) second)

-- ---- as a table has them

module _ (t : RowTable) (client : ℕ) (after : Option ℕ) where
  pub next_later : (node : ℕ) (lease : Lease) → IsNextOf t client after node lease → later_rows client after t.entries ≡ row_at ((node, client), lease) ∷ later_rows client (Some node) t.entries
  unfolding get
  next_later node lease next = next_first client after node next.behind t.entries (sorted_keys by_node.compare t.entries t.sorted) lease next.found next.least

  pub no_later : NoneOf t client after → later_rows client after t.entries ≡ []
  unfolding get
  no_later none = none_later client after t.entries none

  -- so the rows are the first ones, whatever is left
  pub first_rows : (moment first at_most : ℕ) (rows : List LeaseRow) → filter (is_own client first) (rows_at t.entries) ≡ rows ++ later_rows client after t.entries → length rows ≤ at_most
      → (length rows < at_most → later_rows client after t.entries ≡ []) → AreFirstOf (record { rows = shown t; moment = moment }) client first at_most rows
  first_rows moment first at_most rows parts most whole = record {
    all = rows_at t.entries;
    ascend = rows_ascend t.entries (sorted_keys by_node.compare t.entries t.sorted);
    same = λ i. record { rows = table_at t.entries i; moment = moment };
    left = later_rows client after t.entries;
    parts = parts;
    most = most;
    whole = whole;
  }

-- the client's rows from the first node on are those behind the node before it, if there is one
pub from_first_on : (client first : ℕ) (after : Option ℕ) → SomeIff after (1 ≤ first) (first - 1) → (es : List Entry) → filter (is_own client first) (rows_at es) ≡ later_rows client after es
from_first_on client first after before es = λ i. filter (λ row. (row.client == client) && same after before row.number i) (rows_at es)
  where
    same : (a : Option ℕ) → SomeIff a (1 ≤ first) (first - 1) → (n : ℕ) → nat_le first n ≡ is_behind client a n
    same None none n =
        let least : first ≡ 0 = omega (arith, none) in
        let all : nat_le first n ≡ true = grind (arith, nat_tests) in
        all ∙ sym (from_first client n)
    same (Some a) some n = at (nat_cmp n a) refl ∙ sym (ap is_gt (same_first client (nat_cmp n a)))
      where
        at : (o : Ordering) → o ≡ nat_cmp n a → nat_le first n ≡ is_gt o
        at Less is = let less : n < first = omega (arith, ranked n a Less is, some.0, some.1) in grind (arith, nat_tests)
        at Equal is = let less : n < first = omega (arith, ranked n a Equal is, some.0, some.1) in grind (arith, nat_tests)
        at Greater is = let more : first ≤ n = omega (arith, ranked n a Greater is, some.0, some.1) in grind (arith, nat_tests)
