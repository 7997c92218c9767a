-- What the tables of rows show.
use Rattle.std.proofs.Common.{◌≡◌, ℕ, ◌<◌, ◌≤◌, Bool, true, false, cond, not, ◌&&◌, ◌==◌, List, [], ◌∷◌, Option, Some, None, option_map, refl, sym, ap, subst, ◌∙◌, eq-eqb, arith}
use Rattle.std.specs.declared.cmp.Ordering.{Ordering}
use Rattle.std.specs.declared.cmp.Ordering.TheVariants.{Less, Equal, Greater}
use Rattle.std.specs.Ordering.{nat_cmp, is_eq, eq_by_cmp, ordering_then}
use Rattle.std.specs.FinMap.Entries.{find}
use Rattle.std.proofs.lemmas.Bool.Decides.{nat_tests}
use borrow.Author.Tests.{eqb-true}
use Rattle.kfs_model.specs.Table.{Order, get, changed}
use Rattle.kfs_model.proofs.TableLaws.{get-insert, get-retain, get-changed, same_table}
use Rattle.kfs_model.specs.Check.{is_some_and}
use Rattle.kfs_model.specs.Lease as model
use Rattle.kfs_model.specs.Lease.{LeaseTable, live_at, on_those}
use Rattle.kfs_lease.specs.declared.rows.rows.Lease.{Lease}
use Rattle.kfs_lease.specs.Rows.Rows.{lease_of, by_node, table_of, shown, ends_at, without_node, RowTable}

pub both_equal : (a b : Ordering) → is_eq (ordering_then a b) ≡ (is_eq a && is_eq b)
both_equal Less b = refl
both_equal Equal b = refl
both_equal Greater b = refl

other_way : (a b : Bool) → (a && b) ≡ (b && a)
other_way true true = refl
other_way true false = refl
other_way false true = refl
other_way false false = refl

-- two keys are one where they are with their parts turned
pub turned_ties : (q k : ℕ × ℕ) → eq_by_cmp by_node.compare q (k.1, k.0) ≡ eq_by_cmp by_node.compare (q.1, q.0) k
turned_ties q k =
    both_equal (nat_cmp q.0 k.1) (nat_cmp q.1 k.0) ∙ other_way (is_eq (nat_cmp q.0 k.1)) (is_eq (nat_cmp q.1 k.0)) ∙ sym (both_equal (nat_cmp q.1 k.0) (nat_cmp q.0 k.1))

pub as_equal : (o : Ordering) → is_eq o ≡ true → o ≡ Equal
as_equal Less t = cc
as_equal Equal t = refl
as_equal Greater t = cc

-- where two keys tie they are one
pub tied : {K : Type 0} (R : Order K) (q k : K) → eq_by_cmp R.compare q k ≡ true → q ≡ k
tied R q k is = R.exact q k (as_equal (R.compare q k) is)

map_cond : {X Y : Type 0} (f : X → Y) (b : Bool) (v w : Option X) → option_map f (cond b v w) ≡ cond b (option_map f v) (option_map f w)
map_cond f true v w = refl
map_cond f false v w = refl

get-table_of : (rows : List ((ℕ × ℕ) × Lease)) (q : ℕ × ℕ) → get (table_of rows) q ≡ option_map lease_of (find by_node.compare (q.1, q.0) rows)
unfolding table_of get
get-table_of [] q = refl
get-table_of (row ∷ rows) q =
    get-insert (table_of rows) (row.0.1, row.0.0) (lease_of row.1) q
    ∙ ap (λ b. cond b (Some (lease_of row.1)) (get (table_of rows) q)) (turned_ties q row.0)
    ∙ ap (cond (eq_by_cmp by_node.compare (q.1, q.0) row.0) (Some (lease_of row.1))) (get-table_of rows q)
    ∙ sym (map_cond lease_of (eq_by_cmp by_node.compare (q.1, q.0) row.0) (Some row.1) (find by_node.compare (q.1, q.0) rows))

pub get-shown : (t : RowTable) (q : ℕ × ℕ) → get (shown t) q ≡ option_map lease_of (get t (q.1, q.0))
unfolding get
get-shown t q = get-table_of t.entries q

-- what the table shows after a row came or went
pub shown_changed : (t : RowTable) (key : ℕ × ℕ) (row : Option Lease) → shown (changed t key row) ≡ changed (shown t) (key.1, key.0) (option_map lease_of row)
shown_changed t key row =
    same_table _ _ (λ q.
    get-shown (changed t key row) q
    ∙ ap (option_map lease_of) (get-changed t key row (q.1, q.0))
    ∙ map_cond lease_of (eq_by_cmp by_node.compare (q.1, q.0) key) row (get t (q.1, q.0))
    ∙ ap (λ b. cond b (option_map lease_of row) (option_map lease_of (get t (q.1, q.0)))) (sym (turned_ties q key))
    ∙ ap (cond (eq_by_cmp by_node.compare q (key.1, key.0)) (option_map lease_of row)) (sym (get-shown t q))
    ∙ sym (get-changed (shown t) (key.1, key.0) (option_map lease_of row) q))

-- a lease that is live, if there is one
abbrev if_live : (moment : ℕ) → Option model.Lease → Option model.Lease
if_live moment None = None
if_live moment (Some lease) = cond (model.is_live moment lease) (Some lease) None

kept_live : (moment : ℕ) (o : Option model.Lease) → cond (is_some_and o (model.is_live moment)) o None ≡ if_live moment o
kept_live moment None = refl
kept_live moment (Some lease) = refl

get-live_at : (moment : ℕ) (t : LeaseTable) (q : ℕ × ℕ) → get (live_at moment t) q ≡ if_live moment (get t q)
unfolding live_at
get-live_at moment t q = get-retain (λ key. is_some_and (get t key) (model.is_live moment)) t q ∙ kept_live moment (get t q)

get-without_node : (number : ℕ) (t : LeaseTable) (q : ℕ × ℕ) → get (without_node t number) q ≡ cond (not (q.1 == number)) (get t q) None
unfolding on_those
get-without_node number t q = get-retain (λ key. not (key.1 == number)) t q

-- ---- leases that end go one after another

module _ (moment : ℕ) where
  -- a row that ended isn't live
  not_live : (row : Option Lease) → ((end : ℕ) → ends_at row end ≡ true → end ≤ moment) → if_live moment (option_map lease_of row) ≡ None
  not_live None ended = refl
  not_live (Some lease) ended =
      let before : lease.end ≤ moment = ended lease.end (eq-eqb lease.end lease.end refl) in
      let over : model.is_live moment (lease_of lease) ≡ false = grind (arith, nat_tests) in
      ap (λ b. cond b (Some (lease_of lease)) None) over

  still_live : (row : Option Lease) → ((end : ℕ) → ends_at row end ≡ true → moment < end) → if_live moment (option_map lease_of row) ≡ option_map lease_of row
  still_live None later = refl
  still_live (Some lease) later =
      let after : moment < lease.end = later lease.end (eq-eqb lease.end lease.end refl) in
      let live : model.is_live moment (lease_of lease) ≡ true = grind (arith, nat_tests) in
      ap (λ b. cond b (Some (lease_of lease)) None) live

  -- without a row that isn't live, the same ones are live
  pub live_without : (rows : RowTable) (key : ℕ × ℕ) → ((end : ℕ) → ends_at (get rows key) end ≡ true → end ≤ moment) → live_at moment (shown (changed rows key None)) ≡ live_at moment (shown rows)
  live_without rows key ended =
      same_table _ _ (λ q.
      get-live_at moment (shown (changed rows key None)) q
      ∙ ap (if_live moment) (get-shown (changed rows key None) q ∙ ap (option_map lease_of) (get-changed rows key None (q.1, q.0)))
      ∙ at q (eq_by_cmp by_node.compare (q.1, q.0) key) refl
      ∙ ap (if_live moment) (sym (get-shown rows q))
      ∙ sym (get-live_at moment (shown rows) q))
    where
      at : (q : ℕ × ℕ) (b : Bool) → eq_by_cmp by_node.compare (q.1, q.0) key ≡ b → if_live moment (option_map lease_of (cond b None (get rows (q.1, q.0)))) ≡ if_live moment (option_map lease_of (get rows (q.1, q.0)))
      at q true is = sym (subst (λ k. if_live moment (option_map lease_of (get rows k)) ≡ None) (sym (tied by_node (q.1, q.0) key is)) (not_live (get rows key) ended))
      at q false other = refl

  -- where every row is live, all stay
  pub all_live : (rows : RowTable) → ((end : ℕ) (key : ℕ × ℕ) → ends_at (get rows key) end ≡ true → moment < end) → live_at moment (shown rows) ≡ shown rows
  all_live rows later =
      same_table _ _ (λ q.
      get-live_at moment (shown rows) q ∙ ap (if_live moment) (get-shown rows q)
      ∙ still_live (get rows (q.1, q.0)) (λ end. later end (q.1, q.0))
      ∙ sym (get-shown rows q))

module _ (number : ℕ) where
  -- without a row of the node, the others are the same
  pub others_without : (rows : RowTable) (client : ℕ) → without_node (shown (changed rows (number, client) None)) number ≡ without_node (shown rows) number
  others_without rows client =
      same_table _ _ (λ q.
      get-without_node number (shown (changed rows (number, client) None)) q
      ∙ ap (λ o. cond (not (q.1 == number)) o None) (get-shown (changed rows (number, client) None) q ∙ ap (option_map lease_of) (get-changed rows (number, client) None (q.1, q.0)))
      ∙ at q (eq_by_cmp by_node.compare (q.1, q.0) (number, client)) refl
      ∙ ap (λ o. cond (not (q.1 == number)) o None) (sym (get-shown rows q))
      ∙ sym (get-without_node number (shown rows) q))
    where
      at : (q : ℕ × ℕ) (b : Bool) → eq_by_cmp by_node.compare (q.1, q.0) (number, client) ≡ b
          → cond (not (q.1 == number)) (option_map lease_of (cond b None (get rows (q.1, q.0)))) None ≡ cond (not (q.1 == number)) (option_map lease_of (get rows (q.1, q.0))) None
      at q true is =
          let on_it : (q.1 == number) ≡ true = eq-eqb q.1 number (ap (λ (k : ℕ × ℕ). k.0) (tied by_node (q.1, q.0) (number, client) is)) in
          ap (λ b. cond (not b) None None) on_it ∙ sym (ap (λ b. cond (not b) (option_map lease_of (get rows (q.1, q.0))) None) on_it)
      at q false other = refl

  -- where no row is on the node, all stay
  pub none_on_node : (rows : RowTable) → ((client : ℕ) → get rows (number, client) ≡ None) → without_node (shown rows) number ≡ shown rows
  none_on_node rows none = same_table _ _ (λ q. get-without_node number (shown rows) q ∙ at q (q.1 == number) refl)
    where
      at : (q : ℕ × ℕ) (b : Bool) → (q.1 == number) ≡ b → cond (not b) (get (shown rows) q) None ≡ get (shown rows) q
      at q false other = refl
      at q true is =
          let on_it : q.1 ≡ number = eqb-true q.1 number is in
          sym (get-shown rows q ∙ ap (λ n. option_map lease_of (get rows (n, q.0))) on_it ∙ ap (option_map lease_of) (none q.0))
