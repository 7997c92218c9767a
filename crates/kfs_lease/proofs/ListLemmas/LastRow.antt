-- Behind rows without a fault the last one decides whether a row can follow; and what the table has then.
use Rattle.std.proofs.Common.{◌≡◌, ℕ, ◌==◌, ◌&&◌, ◌||◌, not, Bool, true, false, cond, List, [], ◌∷◌, ◌++◌, length, Option, Some, None, refl, sym, ap, subst, ◌∙◌, eqb-true, arith}
use Rattle.std.specs.Prelude.{is_none, nat_le}
use Rattle.std.specs.List.{list_all, list_any}
use Rattle.std.specs.Ordering.{eq_by_cmp}
use Rattle.std.proofs.lemmas.Bool.{and_from, and_parts}
use Rattle.std.proofs.lemmas.Bool.Decides.{nat_tests}
use Rattle.kfs_model.specs.Access.{Client}
use Rattle.kfs_model.specs.Header.{Header}
use Rattle.kfs_model.specs.Lease.{Lease, is_write, row_of}
use Rattle.kfs_model.specs.Table.{get, insert}
use Rattle.kfs_model.proofs.FirstAnswer.{each_from_none}
use Rattle.kfs_model.proofs.TableLaws.{get-insert, same_table}
use Rattle.kfs_lease.specs.LeaseLists.{IsLast, LeaseRow, LeaseRowFault, NotAscending, LeaseHeld, NoSuchNode, Past, UnknownClient, bars, fault_behind, fault_of_row, fault_of_rows, is_before, lease_in, listed_table}
use Rattle.kfs_lease.proofs.ListLemmas.Faultless.{has_passed}
use Rattle.kfs_lease.proofs.ListLemmas.Found.{by_client, found_at, not_itself}
use Rattle.kfs_lease.proofs.ListLemmas.Lawful.{all_at, ties}

before_both : (one other row : LeaseRow) → is_before one other ≡ true → is_before other row ≡ true → is_before one row ≡ true
before_both one other row first second = grind (arith, nat_tests)

-- what bars the row on a node where the last row stands, too
bars_too : (one last row : LeaseRow) → is_before one last ≡ true → is_before last row ≡ true → bars one last ≡ false → bars one row ≡ true → bars last row ≡ true
bars_too one last row first second apart barred =
    let (on_one, writes) = and_parts (one.number == row.number) (is_write one.kind || is_write row.kind) barred in
    let same : one.number ≡ row.number = eqb-true one.number row.number on_one in
    let middle : (one.number == last.number) ≡ true = grind (arith, nat_tests) in
    let end : (last.number == row.number) ≡ true = grind (arith, nat_tests) in
    and_from _ _ end (by (is_write one.kind) (is_write last.kind) (is_write row.kind) (sym (ap (λ b. b && (is_write one.kind || is_write last.kind)) middle) ∙ apart) writes)
  where
    by : (a b c : Bool) → (a || b) ≡ false → (a || c) ≡ true → (b || c) ≡ true
    by true b c none one' = cc
    by false true c none one' = cc
    by false false c none one' = one'

module _ (last row : LeaseRow) where
  all_before : (init : List LeaseRow) → list_all (λ other. is_before other last) init ≡ true → is_before last row ≡ true → list_all (λ other. is_before other row) (init ++ last ∷ []) ≡ true
  all_before [] behind second = and_from _ _ second refl
  all_before (x ∷ init) behind second =
      let (first, later) = and_parts (is_before x last) (list_all (λ other. is_before other last) init) behind in
      and_from _ _ (before_both x last row first second) (all_before init later second)

  not_before : (init : List LeaseRow) → is_before last row ≡ false → list_all (λ other. is_before other row) (init ++ last ∷ []) ≡ false
  not_before [] never = ap (λ b. b && true) never
  not_before (x ∷ init) never = ap (λ b. is_before x row && b) (not_before init never) ∙ either (is_before x row)
    where
      either : (b : Bool) → (b && false) ≡ false
      either true = refl
      either false = refl

  any_bars : (init : List LeaseRow) → list_all (λ other. is_before other last) init ≡ true → list_any (λ other. bars other last) init ≡ false → is_before last row ≡ true → list_any (λ other. bars other row) (init ++ last ∷ []) ≡ bars last row
  any_bars [] behind apart second = either (bars last row)
    where
      either : (b : Bool) → (b || false) ≡ b
      either true = refl
      either false = refl
  any_bars (x ∷ init) behind apart second =
      let (first, later) = and_parts (is_before x last) (list_all (λ other. is_before other last) init) behind in
      let (alone, rest) = neither (bars x last) (list_any (λ other. bars other last) init) apart in
      ap (λ b. bars x row || b) (any_bars init later rest second) ∙ follows (bars x row) (bars last row) (bars_too x last row first second alone)
    where
      neither : (a b : Bool) → (a || b) ≡ false → (a ≡ false) × (b ≡ false)
      neither true b none = cc
      neither false b none = (refl, none)

      follows : (a b : Bool) → (a ≡ true → b ≡ true) → (a || b) ≡ b
      follows true b then = sym (then refl)
      follows false b then = refl

-- ---- the fault

module _ (clients : List Client) (heads : ℕ → Option Header) (moment : ℕ) where
  -- the fault, by what the tests find
  abbrev by_tests : (index : ℕ) → LeaseRow → (ascends barred : Bool) → Option LeaseRowFault
  by_tests index row ascends barred =
      cond (is_none (row_of clients row.client)) (Some (UnknownClient index))
      (cond (is_none (heads row.number)) (Some (NoSuchNode index)) (cond (nat_le row.end moment) (Some (Past index)) (cond (not ascends) (Some (NotAscending index)) (cond barred (Some (LeaseHeld index)) None))))

  pub last_decides : (rows : List LeaseRow) (last : Option LeaseRow) (row : LeaseRow) → fault_of_rows clients heads moment rows ≡ None → IsLast rows last
      → fault_of_row clients heads moment rows row ≡ fault_behind clients heads moment (length rows) last row
  last_decides rows None row none is = ap (λ rs. by_tests (length rows) row (list_all (λ other. is_before other row) rs) (list_any (λ other. bars other row) rs)) is
  last_decides rows (Some last) row none (init, is) =
      let passed = has_passed clients heads moment init last (each_from_none (fault_of_row clients heads moment) rows none init last [] is) in
      ap (λ rs. by_tests (length rows) row (list_all (λ other. is_before other row) rs) (list_any (λ other. bars other row) rs)) is
      ∙ by (is_before last row) refl passed.ascends passed.alone
    where
      by : (ascends : Bool) → is_before last row ≡ ascends → list_all (λ other. is_before other last) init ≡ true → list_any (λ other. bars other last) init ≡ false
          → by_tests (length rows) row (list_all (λ other. is_before other row) (init ++ last ∷ [])) (list_any (λ other. bars other row) (init ++ last ∷ [])) ≡ by_tests (length rows) row (is_before last row) (bars last row)
      by true second behind apart =
          λ i. by_tests (length rows) row ((all_before last row init behind second ∙ sym second) i) (any_bars last row init behind apart second i)
      by false never behind apart =
          ap (λ b. by_tests (length rows) row b (list_any (λ other. bars other row) (init ++ last ∷ []))) (not_before last row init never)
          ∙ sym (ap (λ b. by_tests (length rows) row b (bars last row)) never)

-- ---- the table

module _ (earlier : List LeaseRow) (row : LeaseRow) (behind : list_all (λ other. is_before other row) earlier ≡ true) where
  -- the row's key is new
  pub new_key : get (listed_table earlier) (row.client, row.number) ≡ None
  new_key = by (get (listed_table earlier) (row.client, row.number)) refl
    where
      by : (found : Option Lease) → get (listed_table earlier) (row.client, row.number) ≡ found → found ≡ None
      by None is = refl
      by (Some lease) is =
          let at = found_at earlier row.client row.number lease is in
          absurd (not_itself at.row row (all_at (λ other. is_before other row) at.before at.row at.rest (subst (λ rs. list_all (λ other. is_before other row) rs ≡ true) at.is behind)) at.of_client at.on_node)

get-more : (earlier : List LeaseRow) (row : LeaseRow) → list_all (λ other. is_before other row) earlier ≡ true → (q : ℕ × ℕ)
    → get (listed_table (earlier ++ row ∷ [])) q ≡ cond (eq_by_cmp by_client q (row.client, row.number)) (Some (lease_in row)) (get (listed_table earlier) q)
get-more [] row behind q = get-insert (listed_table []) (row.client, row.number) (lease_in row) q
get-more (x ∷ earlier) row behind q =
    let (first, later) = and_parts (is_before x row) (list_all (λ other. is_before other row) earlier) behind in
    get-insert (listed_table (earlier ++ row ∷ [])) (x.client, x.number) (lease_in x) q
    ∙ ap (λ o. cond (eq_by_cmp by_client q (x.client, x.number)) (Some (lease_in x)) o) (get-more earlier row later q)
    ∙ turned (eq_by_cmp by_client q (x.client, x.number)) (eq_by_cmp by_client q (row.client, row.number)) (get (listed_table earlier) q)
    (λ one two.
    let here = ties q (x.client, x.number) (by_client q (x.client, x.number)) refl one in
    let there = ties q (row.client, row.number) (by_client q (row.client, row.number)) refl two in
    let same = sym here ∙ there in
    not_itself x row first (ap (λ (k : ℕ × ℕ). k.0) same) (ap (λ (k : ℕ × ℕ). k.1) same))
    ∙ ap (λ o. cond (eq_by_cmp by_client q (row.client, row.number)) (Some (lease_in row)) o) (sym (get-insert (listed_table earlier) (x.client, x.number) (lease_in x) q))
  where
    turned : (a b : Bool) (o : Option Lease) → (a ≡ true → b ≡ true → ⊥) → cond a (Some (lease_in x)) (cond b (Some (lease_in row)) o) ≡ cond b (Some (lease_in row)) (cond a (Some (lease_in x)) o)
    turned true true o never = absurd (never refl refl)
    turned true false o never = refl
    turned false true o never = refl
    turned false false o never = refl

-- with a row more at the end the table has the row's lease, too
pub table_more : (earlier : List LeaseRow) (row : LeaseRow) → list_all (λ other. is_before other row) earlier ≡ true → listed_table (earlier ++ row ∷ []) ≡ insert (listed_table earlier) (row.client, row.number) (lease_in row)
table_more earlier row behind = same_table _ _ (λ q. get-more earlier row behind q ∙ sym (get-insert (listed_table earlier) (row.client, row.number) (lease_in row) q))
