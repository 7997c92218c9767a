-- Rows that are listed one after another, in the order of the table.
use Rattle.std.proofs.Common.{◌≡◌, ℕ, ◌<◌, Bool, true, false, cond, not, List, [], ◌∷◌, ◌++◌, Option, Some, None, option_map, refl, sym, ap, ◌∙◌, arith}
use Rattle.std.specs.List.{list_all}
use Rattle.std.specs.declared.cmp.Ordering.{Ordering}
use Rattle.std.specs.declared.cmp.Ordering.TheVariants.{Less, Equal, Greater}
use Rattle.std.specs.declared.ops.Bound.{Bound}
use Rattle.std.specs.declared.ops.Bound.TheVariants.{Excluded, Unbounded}
use Rattle.std.specs.Ordering.{nat_cmp, is_eq, is_gt, eq_by_cmp, ordering_then}
use Rattle.std.specs.Cmp.{tied_itself}
use Rattle.std.specs.FinMap.Entries.{find}
use Rattle.std.proofs.lemmas.Bool.{and_from, and_parts, both_ways}
use Rattle.std.proofs.lemmas.Bool.Decides.{nat_tests}
use Rattle.std.proofs.lemmas.Cmp.{ranked}
use Rattle.kfs_model.specs.Lease as model
use Rattle.kfs_model.specs.Table.{get}
use Rattle.kfs_model.proofs.FirstAnswer.{each_from_none, none_from_each, none_more}
use Rattle.kfs_model.proofs.TableLaws.{get-insert, same_table}
use Rattle.kfs_maps.specs.Chunks.Starts.{is_from, IsNextEntry}
use Rattle.kfs_maps.specs.Chunks.Tables.{table}
use Rattle.kfs_maps.proofs.ChunksLemmas.Tables.{get-table}
use Rattle.kfs_lease.specs.LeaseLists.{Ascend, LeaseRow, is_before, lease_in, listed_table}
use Rattle.kfs_lease.specs.Rows.Listed.{NoneFrom}
use Rattle.kfs_lease.specs.Rows.Rows.{by_node, lease_of, shown}
use Rattle.kfs_lease.specs.declared.rows.rows.Lease.{Lease}
use Rattle.kfs_lease.proofs.ListLemmas.LastRow.{table_more}
use Rattle.kfs_lease.proofs.RowsLemmas.RowTables.{get-shown, tied, turned_ties}
use Rattle.kfs_lease.proofs.RowsLemmas.Walks.{behind_is_less, passed, still_from}

-- ---- ascending

-- whether all come before the row, as an answer
asks : (before : List LeaseRow) → LeaseRow → Option (Unit {0})
asks before row = cond (list_all (λ other. is_before other row) before) None (Some tt)

-- ascending rows, and one that comes behind them all
pub ascend_more : (rows : List LeaseRow) (new : LeaseRow) → Ascend rows → list_all (λ other. is_before other new) rows ≡ true → Ascend (rows ++ new ∷ [])
unfolding asks
ascend_more rows new ascend behind =
    let all = none_more asks rows new (none_from_each asks rows (λ before row rest is. answers before row (ascend before row rest is))) (answers rows new behind) in
    λ before row rest is. answered before row (each_from_none asks (rows ++ new ∷ []) all before row rest is)
  where
    answers : (before : List LeaseRow) (row : LeaseRow) → list_all (λ other. is_before other row) before ≡ true → asks before row ≡ None
    answers before row is = ap (λ b. cond b None (Some tt)) is

    answered : (before : List LeaseRow) (row : LeaseRow) → asks before row ≡ None → list_all (λ other. is_before other row) before ≡ true
    answered before row none = by (list_all (λ other. is_before other row) before) refl none
      where
        by : (b : Bool) → list_all (λ other. is_before other row) before ≡ b → ◌≡◌ {A = Option (Unit {0})} (cond b None (Some tt)) None → list_all (λ other. is_before other row) before ≡ true
        by true is none' = is
        by false is none' = cc

pub none_ascend : Ascend []
none_ascend [] row rest is = cc
none_ascend (b ∷ before) row rest is = cc

-- ---- by the key

abbrev key_of : LeaseRow → ℕ × ℕ
key_of row = (row.number, row.client)

-- what comes before by its key comes before
pub before_by_key : (one other : LeaseRow) → by_node.compare (key_of one) (key_of other) ≡ Less → is_before one other ≡ true
before_by_key one other less = at (nat_cmp one.number other.number) refl less
  where
    at : (o : Ordering) → o ≡ nat_cmp one.number other.number → ordering_then o (nat_cmp one.client other.client) ≡ Less → is_before one other ≡ true
    at Less is less' = let first : one.number < other.number = ranked one.number other.number Less is in grind (arith, nat_tests)
    at Equal is less' =
        let same : one.number ≡ other.number = ranked one.number other.number Equal is in
        let second : one.client < other.client = ranked one.client other.client Less (sym less') in
        grind (arith, nat_tests)
    at Greater is less' = cc

-- each row comes before the start
abbrev pub AreBefore : Bound (ℕ × ℕ) → List LeaseRow → Type 0
AreBefore start rows = list_all (λ row. not (is_from by_node.compare start (key_of row))) rows ≡ true

module _ (start : Bound (ℕ × ℕ)) (new : LeaseRow) (within : is_from by_node.compare start (key_of new) ≡ true) where
  -- what comes before the start comes before a key from it on
  less_than : (key : ℕ × ℕ) → is_from by_node.compare start key ≡ false → by_node.compare key (key_of new) ≡ Less
  less_than key out = at (by_node.compare key (key_of new)) refl
    where
      at : (o : Ordering) → by_node.compare key (key_of new) ≡ o → by_node.compare key (key_of new) ≡ Less
      at Less is = is
      at Equal is = absurd (both_ways (is_from by_node.compare start key) out (ap (is_from by_node.compare start) (by_node.exact key (key_of new) is) ∙ within))
      at Greater is =
          absurd (both_ways (is_from by_node.compare start key) out
          (still_from by_node start (key_of new) key (behind_is_less by_node (key_of new) key (ap is_gt is)) within (is_from by_node.compare start key) refl))

  -- so all rows before the start come before the new one, and all with the new one before what is behind it
  pub all_before_new : (rows : List LeaseRow) → AreBefore start rows → list_all (λ other. is_before other new) rows ≡ true
  all_before_new [] before = refl
  all_before_new (row ∷ rows) before =
      let (first, later) = and_parts (not (is_from by_node.compare start (key_of row))) (list_all (λ r. not (is_from by_node.compare start (key_of r))) rows) before in
      and_from _ _ (before_by_key row new (less_than (key_of row) (not_true (is_from by_node.compare start (key_of row)) first))) (all_before_new rows later)
    where
      not_true : (b : Bool) → not b ≡ true → b ≡ false
      not_true true is = cc
      not_true false is = refl

  pub before_more : (rows : List LeaseRow) → AreBefore start rows → AreBefore (Excluded (key_of new)) (rows ++ new ∷ [])
  before_more [] before = and_from _ _ (ap (λ o. not (is_gt o)) (tied_key (key_of new))) refl
    where
      tied_key : (key : ℕ × ℕ) → by_node.compare key key ≡ Equal
      tied_key key = tied_itself by_node.total key
  before_more (row ∷ rows) before =
      let (first, later) = and_parts (not (is_from by_node.compare start (key_of row))) (list_all (λ r. not (is_from by_node.compare start (key_of r))) rows) before in
      and_from _ _ (ap (λ o. not (is_gt o)) (less_than (key_of row) (not_true (is_from by_node.compare start (key_of row)) first))) (before_more rows later)
    where
      not_true : (b : Bool) → not b ≡ true → b ≡ false
      not_true true is = cc
      not_true false is = refl

-- ---- what the rows so far show

module _ (leases : List ((ℕ × ℕ) × Lease)) where
  -- the rows have the leases that come before the start, and no other
  abbrev pub HaveThoseBefore : Bound (ℕ × ℕ) → List LeaseRow → Type 0
  HaveThoseBefore start rows =
      (q : ℕ × ℕ) → get (listed_table rows) q ≡ cond (is_from by_node.compare start (q.1, q.0)) None (option_map lease_of (find by_node.compare (q.1, q.0) leases))

  pub none_before : HaveThoseBefore Unbounded []
  unfolding get
  none_before q = refl

  pub one_more : (start : Bound (ℕ × ℕ)) (rows : List LeaseRow) (new : LeaseRow) (lease : Lease) → lease_in new ≡ lease_of lease → IsNextEntry by_node.compare start leases (key_of new) lease
      → list_all (λ other. is_before other new) rows ≡ true → HaveThoseBefore start rows → HaveThoseBefore (Excluded (key_of new)) (rows ++ new ∷ [])
  one_more start rows new lease alike next behind have q =
      ap (λ (t : model.LeaseTable). get t q) (table_more rows new behind)
      ∙ get-insert (listed_table rows) (new.client, new.number) (lease_in new) q
      ∙ ap (λ b. cond b (Some (lease_in new)) (get (listed_table rows) q)) (turned_ties q (key_of new))
      ∙ at (eq_by_cmp by_node.compare key (key_of new)) refl
    where
      key : ℕ × ℕ
      key = (q.1, q.0)

      found : Option model.Lease
      found = option_map lease_of (find by_node.compare key leases)

      -- the key of the new row
      here : key ≡ key_of new → Some (lease_in new) ≡ cond (is_from by_node.compare (Excluded (key_of new)) key) None found
      here same =
          ap Some alike
          ∙ sym (ap (option_map lease_of) (ap (λ k. find by_node.compare k leases) same ∙ next.found))
          ∙ ap (λ b. cond b None found) (sym (ap (λ o. is_gt o) (ap (λ k. by_node.compare k (key_of new)) same ∙ tied_itself by_node.total (key_of new))))

      -- what is told of the key so far
      told : (b : Bool) → is_from by_node.compare start key ≡ b → get (listed_table rows) q ≡ cond b None found
      told b is = have q ∙ ap (λ c. cond c None found) is

      nothing_found : find by_node.compare key leases ≡ None → (b : Bool) → ◌≡◌ {A = Option model.Lease} (cond b None found) None
      nothing_found none true = refl
      nothing_found none false = ap (option_map lease_of) none

      away : (key ≡ key_of new → ⊥) → (b : Bool) → is_from by_node.compare (Excluded (key_of new)) key ≡ b → get (listed_table rows) q ≡ cond b None found
      away apart true behind_it =
          told true (still_from by_node start (key_of new) key (behind_is_less by_node (key_of new) key behind_it) next.within (is_from by_node.compare start key) refl)
      away apart false not_behind =
          passed by_node start leases (key_of new) lease next key not_behind (get (listed_table rows) q ≡ found)
          (λ same. absurd (apart same))
          (λ out. told false out)
          (λ none. have q ∙ nothing_found none (is_from by_node.compare start key) ∙ sym (ap (option_map lease_of) none))

      at : (b : Bool) → eq_by_cmp by_node.compare key (key_of new) ≡ b → cond b (Some (lease_in new)) (get (listed_table rows) q) ≡ cond (is_from by_node.compare (Excluded (key_of new)) key) None found
      at true tie = here (tied by_node key (key_of new) tie)
      at false tie = away (λ same. both_ways _ tie (ap (λ k. eq_by_cmp by_node.compare k (key_of new)) same ∙ ap is_eq (tied_itself by_node.total (key_of new)))) (is_from by_node.compare (Excluded (key_of new)) key) refl

  -- where no row comes from the start on, the rows have all
  pub all_listed : (start : Bound (ℕ × ℕ)) (rows : List LeaseRow) → HaveThoseBefore start rows → NoneFrom leases start → listed_table rows ≡ shown (table by_node leases)
  all_listed start rows have none = same_table _ _ (λ q. have q ∙ at q (is_from by_node.compare start (q.1, q.0)) refl ∙ sym (get-shown (table by_node leases) q ∙ ap (option_map lease_of) (get-table by_node leases (q.1, q.0))))
    where
      at : (q : ℕ × ℕ) (b : Bool) → is_from by_node.compare start (q.1, q.0) ≡ b
          → cond b None (option_map lease_of (find by_node.compare (q.1, q.0) leases)) ≡ option_map lease_of (find by_node.compare (q.1, q.0) leases)
      at q true from = sym (ap (option_map lease_of) (none (q.1, q.0) from))
      at q false out = refl
