-- Ascending rows of a lawful table have no fault.
use Rattle.std.proofs.Common.{◌≡◌, ◌≢◌, ℕ, ◌<◌, ◌==◌, ◌||◌, not, Bool, true, false, cond, List, [], ◌∷◌, ◌++◌, length, Option, Some, None, is_some, refl, sym, ap, subst, ◌∙◌, append_assoc, eqb-true, arith}
use Rattle.std.specs.Prelude.{is_none, nat_le}
use Rattle.std.specs.List.{list_all, list_any}
use Rattle.std.specs.Cmp.{eq_by_cmp_equiv}
use Rattle.std.specs.Ordering.{is_eq, eq_by_cmp}
use Rattle.std.specs.declared.cmp.Ordering.{Ordering}
use Rattle.std.specs.declared.cmp.Ordering.TheVariants.{Less, Equal, Greater}
use Rattle.std.proofs.lemmas.Bool.{both_ways, false_from_ne_true, and_parts, ltb-true}
use Rattle.std.proofs.lemmas.Bool.Decides.{nat_tests}
use Rattle.kfs_model.specs.Access.{Client}
use Rattle.kfs_model.specs.Header.{Header}
use Rattle.kfs_model.specs.Lease.{LeaseKind, Leases, ReadLease, WriteLease, is_write, row_of}
use Rattle.kfs_model.specs.Table.{numbers, pairs, get}
use Rattle.kfs_model.proofs.TableLaws.{get-insert}
use Rattle.kfs_model.proofs.FirstAnswer.{none_from_each}
use Rattle.kfs_lease.specs.LeaseLists.{Ascend, AreLawful, LeaseRow, LeaseRowFault, NotAscending, LeaseHeld, NoSuchNode, Past, UnknownClient, bars, fault_of_row, fault_of_rows, is_before, lease_in, listed_leases, listed_table}
use Rattle.kfs_lease.proofs.ListLemmas.Found.{by_client, not_itself}

pub ties : (key other : ℕ × ℕ) (o : Ordering) → by_client key other ≡ o → is_eq o ≡ true → key ≡ other
ties key other Less tie is = cc
ties key other Equal tie is = (pairs numbers numbers).exact key other tie
ties key other Greater tie is = cc

same_tie : (key : ℕ × ℕ) → eq_by_cmp by_client key key ≡ true
same_tie key = (eq_by_cmp_equiv (pairs numbers numbers).total).refl key

-- the lease of a row that comes behind those before it
pub stands : (before : List LeaseRow) (row : LeaseRow) (rest : List LeaseRow) → list_all (λ other. is_before other row) before ≡ true → get (listed_table (before ++ row ∷ rest)) (row.client, row.number) ≡ Some (lease_in row)
stands [] row rest behind =
    get-insert (listed_table rest) (row.client, row.number) (lease_in row) (row.client, row.number)
    ∙ ap (λ b. cond b (Some (lease_in row)) (get (listed_table rest) (row.client, row.number))) (same_tie (row.client, row.number))
stands (other ∷ before) row rest behind =
    let (first, later) = and_parts (is_before other row) (list_all (λ o. is_before o row) before) behind in
    get-insert (listed_table (before ++ row ∷ rest)) (other.client, other.number) (lease_in other) (row.client, row.number)
    ∙ ap (λ b. cond b (Some (lease_in other)) (get (listed_table (before ++ row ∷ rest)) (row.client, row.number)))
    (false_from_ne_true _ (λ tie.
    let same = ties (row.client, row.number) (other.client, other.number) (by_client (row.client, row.number) (other.client, other.number)) refl tie in
    not_itself other row first (sym (ap (λ (k : ℕ × ℕ). k.0) same)) (sym (ap (λ (k : ℕ × ℕ). k.1) same))))
    ∙ stands before row rest later

-- an element that passes, with those before it
pub record IsSplit (test : LeaseRow → Bool) (rows : List LeaseRow) : Type 0 where
  pub before : List LeaseRow
  pub row : LeaseRow
  pub rest : List LeaseRow
  pub is : rows ≡ before ++ row ∷ rest
  pub passes : test row ≡ true

split_at : (test : LeaseRow → Bool) (rows : List LeaseRow) → list_any test rows ≡ true → IsSplit test rows
split_at test [] any = cc
split_at test (row ∷ rows) any = by (test row) refl any (split_at test rows)
  where
    by : (b : Bool) → test row ≡ b → (b || list_any test rows) ≡ true → (list_any test rows ≡ true → IsSplit test rows) → IsSplit test (row ∷ rows)
    by true passes any' further = record { before = []; row = row; rest = rows; is = refl; passes = passes }
    by false passes any' further =
        let later = further any' in
        record { before = row ∷ later.before; row = later.row; rest = later.rest; is = ap (λ rs. row ∷ rs) later.is; passes = later.passes }

pub all_at : (test : LeaseRow → Bool) (before : List LeaseRow) (row : LeaseRow) (rest : List LeaseRow) → list_all test (before ++ row ∷ rest) ≡ true → test row ≡ true
all_at test [] row rest all = (and_parts (test row) (list_all test rest) all).0
all_at test (x ∷ before) row rest all = all_at test before row rest (and_parts (test x) (list_all test (before ++ row ∷ rest)) all).1

some_none : {X : Type 0} (o : Option X) → is_some o ≡ true → is_none o ≡ false
some_none None some = cc
some_none (Some x) some = refl

passes_on : (refused : Bool) (why : LeaseRowFault) (rest : Option LeaseRowFault) → refused ≡ false → rest ≡ None → cond refused (Some why) rest ≡ None
passes_on true why rest passed none = cc
passes_on false why rest passed none = none

read_not_write : (kind : LeaseKind) → kind ≡ ReadLease → is_write kind ≡ false
read_not_write ReadLease is = refl
read_not_write WriteLease is = cc

module _ (clients : List Client) (heads : ℕ → Option Header) (moment : ℕ) (rows : List LeaseRow) (ascend : Ascend rows) (lawful : AreLawful clients heads (listed_leases moment rows)) where
  at_row : (before : List LeaseRow) (row : LeaseRow) (rest : List LeaseRow) → rows ≡ before ++ row ∷ rest → get (listed_table rows) (row.client, row.number) ≡ Some (lease_in row)
  at_row before row rest is = subst (λ rs. get (listed_table rs) (row.client, row.number) ≡ Some (lease_in row)) (sym is) (stands before row rest (ascend before row rest is))

  -- no earlier row bars it
  alone : (before : List LeaseRow) (row : LeaseRow) (rest : List LeaseRow) → rows ≡ before ++ row ∷ rest → list_any (λ other. bars other row) before ≡ true → ⊥
  alone before row rest is any =
      let split = split_at (λ other. bars other row) before any in
      let other = split.row in
      let whole : rows ≡ split.before ++ other ∷ (split.rest ++ row ∷ rest) =
      is ∙ ap (λ bs. bs ++ row ∷ rest) split.is ∙ append_assoc split.before (other ∷ split.rest) (row ∷ rest) in
      let earlier : is_before other row ≡ true =
      all_at (λ o. is_before o row) split.before other split.rest (subst (λ bs. list_all (λ o. is_before o row) bs ≡ true) split.is (ascend before row rest is)) in
      let (on_one, writes) = and_parts (other.number == row.number) (is_write other.kind || is_write row.kind) split.passes in
      let same : other.number ≡ row.number = eqb-true other.number row.number on_one in
      let apart : other.client ≢ row.client = λ client. not_itself other row earlier client same in
      let first = at_row split.before other (split.rest ++ row ∷ rest) whole in
      let second = at_row before row rest is in
      let live_one = lawful.in_force.live other.client other.number (lease_in other) first in
      let live_two = lawful.in_force.live row.client row.number (lease_in row) second in
      let at_row_too = subst (λ n. get (listed_table rows) (row.client, n) ≡ Some (lease_in row)) (sym same) second in
      let at_other = subst (λ n. get (listed_table rows) (other.client, n) ≡ Some (lease_in other)) same first in
      let one_reads = read_not_write other.kind (lawful.in_force.compatible other.client row.client other.number (lease_in other) (lease_in row) apart (first, live_one) (at_row_too, live_two)) in
      let two_reads = read_not_write row.kind (lawful.in_force.compatible row.client other.client row.number (lease_in row) (lease_in other) (λ c. apart (sym c)) (second, live_two) (at_other, live_one)) in
      both_ways (is_write other.kind || is_write row.kind) (λ i. one_reads i || two_reads i) writes

  no_fault : (before : List LeaseRow) (row : LeaseRow) (rest : List LeaseRow) → rows ≡ before ++ row ∷ rest → fault_of_row clients heads moment before row ≡ None
  no_fault before row rest is =
      let there = at_row before row rest is in
      let some = ap is_some there in
      let known = some_none (row_of clients row.client) (lawful.known row.client row.number some) in
      let on_node = some_none (heads row.number) (lawful.on_nodes row.client row.number some) in
      let live : moment < row.end = ltb-true moment row.end (lawful.in_force.live row.client row.number (lease_in row) there) in
      let later : nat_le row.end moment ≡ false = grind (arith, nat_tests) in
      let behind = ascend before row rest is in
      let none_bars = false_from_ne_true _ (alone before row rest is) in
      let index = length before in
      passes_on (is_none (row_of clients row.client)) (UnknownClient index) _ known
      (passes_on (is_none (heads row.number)) (NoSuchNode index) _ on_node
      (passes_on (nat_le row.end moment) (Past index) _ later
      (passes_on (not (list_all (λ other. is_before other row) before)) (NotAscending index) _ (ap not behind)
      (passes_on (list_any (λ other. bars other row) before) (LeaseHeld index) None none_bars refl))))

  pub lawful_faultless : fault_of_rows clients heads moment rows ≡ None
  lawful_faultless = none_from_each (fault_of_row clients heads moment) rows no_fault

-- So leases that are listed have none.
pub listed_faultless : (clients : List Client) (heads : ℕ → Option Header) (leases : Leases) (rows : List LeaseRow) → AreLawful clients heads leases → Ascend rows → listed_leases leases.moment rows ≡ leases
    → fault_of_rows clients heads leases.moment rows ≡ None
listed_faultless clients heads leases rows lawful ascend same = lawful_faultless clients heads leases.moment rows ascend (subst (AreLawful clients heads) (sym same) lawful)
