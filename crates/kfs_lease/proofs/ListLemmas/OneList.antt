-- Ascending rows with one table are one list.
use Rattle.std.proofs.Common.{◌≡◌, ℕ, ◌⊎◌, inl, inr, ⊎_elim, Bool, true, false, cond, List, [], ◌∷◌, ◌++◌, Option, Some, None, refl, sym, ap, subst, ◌∙◌, arith}
use Rattle.std.specs.List.{list_all}
use Rattle.std.specs.Ordering.{eq_by_cmp}
use Rattle.std.proofs.lemmas.Bool.{and_parts}
use Rattle.std.proofs.lemmas.Bool.Decides.{nat_tests}
use Rattle.kfs_model.specs.Lease.{Lease, LeaseTable}
use Rattle.kfs_model.specs.Table.{get}
use Rattle.kfs_model.proofs.TableLaws.{get-insert, same_table}
use Rattle.kfs_lease.specs.LeaseLists.{Ascend, LeaseRow, is_before, lease_in, listed_table}
use Rattle.kfs_lease.proofs.ListLemmas.Found.{IsAt, by_client, found_at, not_itself}
use Rattle.kfs_lease.proofs.ListLemmas.Lawful.{stands, ties}

module _ (x : LeaseRow) (xs : List LeaseRow) (ascend : Ascend (x ∷ xs)) where
  rest_ascends : Ascend xs
  rest_ascends before row rest is = (and_parts (is_before x row) (list_all (λ other. is_before other row) before) (ascend (x ∷ before) row rest (ap (λ rows. x ∷ rows) is))).1

  first_before : (before : List LeaseRow) (row : LeaseRow) (rest : List LeaseRow) → xs ≡ before ++ row ∷ rest → is_before x row ≡ true
  first_before before row rest is = (and_parts (is_before x row) (list_all (λ other. is_before other row) before) (ascend (x ∷ before) row rest (ap (λ rows. x ∷ rows) is))).0

  -- no later row has its key
  not_later : get (listed_table xs) (x.client, x.number) ≡ None
  not_later = by (get (listed_table xs) (x.client, x.number)) refl
    where
      by : (found : Option Lease) → get (listed_table xs) (x.client, x.number) ≡ found → found ≡ None
      by None is = refl
      by (Some lease) is =
          let at = found_at xs x.client x.number lease is in
          absurd (not_itself x at.row (first_before at.before at.row at.rest at.is) (sym at.of_client) (sym at.on_node))

  -- a row of the table is the first one, or the first one comes before it
  first_or_before : (row : LeaseRow) → get (listed_table (x ∷ xs)) (row.client, row.number) ≡ Some (lease_in row) → (row ≡ x) ⊎ (is_before x row ≡ true)
  first_or_before row there = by (found_at (x ∷ xs) row.client row.number (lease_in row) there)
    where
      one_row : (other : LeaseRow) → other.client ≡ row.client → other.number ≡ row.number → lease_in other ≡ lease_in row → other ≡ row
      one_row other client number says = λ i. record { number = number i; client = client i; kind = (says i).kind; end = (says i).end }

      at_place : (before : List LeaseRow) (other : LeaseRow) (rest : List LeaseRow) → x ∷ xs ≡ before ++ other ∷ rest → other ≡ row → (row ≡ x) ⊎ (is_before x row ≡ true)
      at_place [] other rest is same = let first : x ≡ other = cc in inl (sym same ∙ sym first)
      at_place (b ∷ before) other rest is same =
          let tail : xs ≡ before ++ other ∷ rest = cc in
          inr (subst (λ r. is_before x r ≡ true) same (first_before before other rest tail))

      by : IsAt (x ∷ xs) row.client row.number (lease_in row) → (row ≡ x) ⊎ (is_before x row ≡ true)
      by at = at_place at.before at.row at.rest at.is (one_row at.row at.of_client at.on_node at.says)

never_both : (x y : LeaseRow) → is_before x y ≡ true → is_before y x ≡ true → ⊥
never_both x y one other = grind (arith, nat_tests)

-- without the same first row two tables are the same
tails_same : (x : LeaseRow) (xs ys : List LeaseRow) → listed_table (x ∷ xs) ≡ listed_table (x ∷ ys) → get (listed_table xs) (x.client, x.number) ≡ None → get (listed_table ys) (x.client, x.number) ≡ None → listed_table xs ≡ listed_table ys
tails_same x xs ys same none_x none_y = same_table _ _ (λ q. by q (eq_by_cmp by_client q (x.client, x.number)) refl
    (sym (get-insert (listed_table xs) (x.client, x.number) (lease_in x) q) ∙ ap (λ (t : LeaseTable). get t q) same ∙ get-insert (listed_table ys) (x.client, x.number) (lease_in x) q))
  where
    by : (q : ℕ × ℕ) (b : Bool) → eq_by_cmp by_client q (x.client, x.number) ≡ b → cond b (Some (lease_in x)) (get (listed_table xs) q) ≡ cond b (Some (lease_in x)) (get (listed_table ys) q) → get (listed_table xs) q ≡ get (listed_table ys) q
    by q true tie both =
        let here = ties q (x.client, x.number) (by_client q (x.client, x.number)) refl tie in
        ap (get (listed_table xs)) here ∙ none_x ∙ sym (ap (get (listed_table ys)) here ∙ none_y)
    by q false tie both = both

nothing_there : (x : LeaseRow) (xs : List LeaseRow) → listed_table [] ≡ listed_table (x ∷ xs) → ⊥
unfolding get
nothing_there x xs same =
    let there = stands [] x xs refl in
    let none : get (listed_table []) (x.client, x.number) ≡ None = refl in
    let other = ap (λ (t : LeaseTable). get t (x.client, x.number)) same in cc

pub one_list : (rows others : List LeaseRow) → Ascend rows → Ascend others → listed_table rows ≡ listed_table others → rows ≡ others
one_list [] [] first second same = refl
one_list [] (y ∷ ys) first second same = absurd (nothing_there y ys same)
one_list (x ∷ xs) [] first second same = absurd (nothing_there x xs (sym same))
one_list (x ∷ xs) (y ∷ ys) first second same =
    let x_there = stands [] x xs refl in
    let y_there = stands [] y ys refl in
    let x_in = first_or_before y ys second x (ap (λ (t : LeaseTable). get t (x.client, x.number)) (sym same) ∙ x_there) in
    let y_in = first_or_before x xs first y (ap (λ (t : LeaseTable). get t (y.client, y.number)) same ∙ y_there) in
    let head : x ≡ y = ⊎_elim (λ is. is) (λ y_first. ⊎_elim (λ is. sym is) (λ x_first. absurd (never_both x y x_first y_first)) y_in) x_in in
    let alike = subst (λ z. listed_table (x ∷ xs) ≡ listed_table (z ∷ ys)) (sym head) same in
    let none_y = subst (λ (z : LeaseRow). get (listed_table ys) (z.client, z.number) ≡ None) (sym head) (not_later y ys second) in
    let tail = one_list xs ys (rest_ascends x xs first) (rest_ascends y ys second) (tails_same x xs ys alike (not_later x xs first) none_y) in
    λ i. head i ∷ tail i
