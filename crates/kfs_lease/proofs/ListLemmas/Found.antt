-- Where the lease that a table has stands among its rows.
use Rattle.std.proofs.Common.{◌≡◌, ℕ, ◌⊎◌, inl, inr, ⊎_elim, ◌||◌, Bool, true, false, cond, List, [], ◌∷◌, ◌++◌, Some, refl, sym, ap, ◌∙◌, arith}
use Rattle.std.specs.List.{list_any}
use Rattle.std.specs.declared.cmp.Ordering.{Ordering}
use Rattle.std.specs.declared.cmp.Ordering.TheVariants.{Less, Equal, Greater}
use Rattle.std.specs.Ordering.{is_eq}
use Rattle.std.proofs.lemmas.Bool.Decides.{nat_tests}
use Rattle.kfs_model.specs.Lease.{Lease, LeaseTable}
use Rattle.kfs_model.specs.Table.{numbers, pairs, get, insert}
use Rattle.kfs_model.proofs.TableLaws.{get-insert}
use Rattle.kfs_lease.specs.LeaseLists.{LeaseRow, is_before, lease_in, listed_table}

abbrev pub by_client : ℕ × ℕ → ℕ × ℕ → Ordering
by_client = (pairs numbers numbers).compare

-- a lease that stands there after an insert is the new one or an old one
pub with_row : (rows : LeaseTable) (holder node : ℕ) (new : Lease) (client number : ℕ) (lease : Lease) → get (insert rows (holder, node) new) (client, number) ≡ Some lease
    → ((client ≡ holder) × (number ≡ node) × (new ≡ lease)) ⊎ (get rows (client, number) ≡ Some lease)
with_row rows holder node new client number lease there = by (by_client (client, number) (holder, node)) refl (sym (get-insert rows (holder, node) new (client, number)) ∙ there)
  where
    by : (o : Ordering) → by_client (client, number) (holder, node) ≡ o → cond (is_eq o) (Some new) (get rows (client, number)) ≡ Some lease
        → ((client ≡ holder) × (number ≡ node) × (new ≡ lease)) ⊎ (get rows (client, number) ≡ Some lease)
    by Less tie is = inr is
    by Equal tie is =
        let same = (pairs numbers numbers).exact (client, number) (holder, node) tie in
        inl (ap (λ (key : ℕ × ℕ). key.0) same, ap (λ (key : ℕ × ℕ). key.1) same, cc)
    by Greater tie is = inr is

-- the row of a client on a node, among the rows
pub record IsAt (rows : List LeaseRow) (client number : ℕ) (lease : Lease) : Type 0 where
  pub before : List LeaseRow
  pub row : LeaseRow
  pub rest : List LeaseRow
  pub is : rows ≡ before ++ row ∷ rest
  pub of_client : row.client ≡ client
  pub on_node : row.number ≡ number
  pub says : lease_in row ≡ lease

pub found_at : (rows : List LeaseRow) (client number : ℕ) (lease : Lease) → get (listed_table rows) (client, number) ≡ Some lease → IsAt rows client number lease
unfolding get
found_at [] client number lease there = cc
found_at (row ∷ rows) client number lease there = by (found_at rows client number lease) (with_row (listed_table rows) row.client row.number (lease_in row) client number lease there)
  where
    by : (get (listed_table rows) (client, number) ≡ Some lease → IsAt rows client number lease)
        → ((client ≡ row.client) × (number ≡ row.number) × (lease_in row ≡ lease)) ⊎ (get (listed_table rows) (client, number) ≡ Some lease) → IsAt (row ∷ rows) client number lease
    by further (inl new) = record { before = []; row = row; rest = rows; is = refl; of_client = sym new.0; on_node = sym new.1; says = new.2 }
    by further (inr old) =
        let later = further old in
        record { before = row ∷ later.before; row = later.row; rest = later.rest; is = ap (λ rs. row ∷ rs) later.is; of_client = later.of_client; on_node = later.on_node; says = later.says }

-- of two rows of one list, one stands before the other, or they are one
pub record IsAmong (before : List LeaseRow) (row : LeaseRow) : Type 0 where
  pub any : (test : LeaseRow → Bool) → test row ≡ true → list_any test before ≡ true

module _ (one other : LeaseRow) where
  pub either_first : (a b rest more : List LeaseRow) → a ++ one ∷ rest ≡ b ++ other ∷ more → (IsAmong b one) ⊎ ((one ≡ other) ⊎ (IsAmong a other))
  either_first [] [] rest more same = inr (inl cc)
  either_first [] (y ∷ b) rest more same =
      let first : one ≡ y = cc in
      inl (record { any = λ test is. ap (λ z. test z || list_any test b) (sym first) ∙ ap (λ c. c || list_any test b) is })
  either_first (x ∷ a) [] rest more same =
      let first : x ≡ other = cc in
      inr (inr (record { any = λ test is. ap (λ z. test z || list_any test a) first ∙ ap (λ c. c || list_any test a) is }))
  either_first (x ∷ a) (y ∷ b) rest more same =
      let tails : a ++ one ∷ rest ≡ b ++ other ∷ more = cc in
      ⊎_elim (λ in_b. inl (record { any = λ test is. over (test y) (list_any test b) (in_b.any test is) }))
      (⊎_elim (λ equal. inr (inl equal)) (λ in_a. inr (inr (record { any = λ test is. over (test x) (list_any test a) (in_a.any test is) }))))
      (either_first a b rest more tails)
    where
      over : (c d : Bool) → d ≡ true → (c || d) ≡ true
      over true d is = refl
      over false d is = is

-- what comes before isn't it
pub not_itself : (one other : LeaseRow) → is_before one other ≡ true → one.client ≡ other.client → one.number ≡ other.number → ⊥
not_itself one other before client number = grind (arith, nat_tests)
