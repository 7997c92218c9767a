-- The leases of some clients alone.
use Rattle.std.proofs.Common.{◌≡◌, ℕ, ◌≤◌, ◌++◌, ◌∷◌, [], ◌&&◌, not, Bool, true, false, cond, List, Option, Some, None, is_some, length, take, refl, sym, ap, subst, ◌∙◌}
use Rattle.std.specs.Prelude.{if◌then◌else◌}
use Rattle.std.specs.List.{list_all}
use Rattle.std.specs.Cmp.{eq_by_cmp_equiv}
use Rattle.std.specs.Ordering.{eq_by_cmp}
use Rattle.std.proofs.lemmas.List.{take_all}
use Rattle.kfs_model.specs.Access.{Client}
use Rattle.kfs_model.specs.Header.{Header}
use Rattle.kfs_model.specs.Lease.{Lease, LeaseTable, Leases, row_of}
use Rattle.kfs_model.specs.Table.{get, numbers, pairs, remove, retain}
use Rattle.kfs_model.proofs.TableLaws.{get-insert, get-remove, get-retain, same_table}
use Rattle.kfs_lease.specs.InForce.{AreInForce}
use Rattle.kfs_lease.specs.LeaseLists.{AreLawful, LeaseRow, is_before, lease_in, listed_leases, listed_table}
use Rattle.kfs_lease.specs.OfClients.{of_clients}
use Rattle.kfs_lease.specs.ShownLists.{rows_shown}
use Rattle.kfs_lease.specs.declared.leases.listed.LeaseRow.{LeaseRow as CodeRow}
use Rattle.kfs_lease.proofs.LeasesInForce.{in_force-fewer}
use Rattle.kfs_lease.proofs.ListLemmas.Found.{by_client}
use Rattle.kfs_lease.proofs.ListLemmas.LastRow.{table_more}
use Rattle.kfs_lease.proofs.ListLemmas.Lawful.{ties}

module _ (clients : List Client) where
  abbrev is_known : ℕ → Bool
  is_known client = is_some (row_of clients client)

  -- the rows of clients that are gone have ended, and no others
  abbrev pub HaveEnded : LeaseTable → List LeaseRow → LeaseTable → Type 0
  HaveEnded all rows left = (q : ℕ × ℕ) → get left q ≡ cond (not (is_known q.0) && is_some (get (listed_table rows) q)) None (get all q)

  pub none_ended : (all : LeaseTable) → HaveEnded all [] all
  unfolding get
  none_ended all q = by (is_known q.0)
    where
      by : (b : Bool) → get all q ≡ cond (not b && false) None (get all q)
      by true = refl
      by false = refl

  -- one row more
  pub ended_more : (all left new : LeaseTable) (rows : List LeaseRow) (row : LeaseRow) → list_all (λ other. is_before other row) rows ≡ true → HaveEnded all rows left
      → new ≡ (if is_known row.client then left else remove left (row.client, row.number)) → HaveEnded all (rows ++ row ∷ []) new
  ended_more all left new rows row behind have is q =
      ap (λ (t : LeaseTable). get t q) is
      ∙ at (is_known row.client) refl
      ∙ ap (λ (o : Option Lease). cond (not (is_known q.0) && is_some o) None (get all q))
      (sym (ap (λ (t : LeaseTable). get t q) (table_more rows row behind) ∙ get-insert (listed_table rows) (row.client, row.number) (lease_in row) q))
    where
      tie : Bool
      tie = eq_by_cmp by_client q (row.client, row.number)

      was : Option Lease
      was = get (listed_table rows) q

      due : Bool → Option Lease
      due b = cond (not (is_known q.0) && is_some (cond b (Some (lease_in row)) was)) None (get all q)

      -- the client of a key that ties is the row's
      same_client : tie ≡ true → q.0 ≡ row.client
      same_client tied = ap (λ (k : ℕ × ℕ). k.0) (ties q (row.client, row.number) (by_client q (row.client, row.number)) refl tied)

      stays : is_known row.client ≡ true → (b : Bool) → tie ≡ b → get left q ≡ due b
      stays known true tied =
          let here : is_known q.0 ≡ true = ap is_known (same_client tied) ∙ known in
          have q ∙ ap (λ b. cond (not b && is_some was) None (get all q)) here ∙ sym (ap (λ b. cond (not b && true) None (get all q)) here)
      stays known false apart = have q

      turned : eq_by_cmp by_client (row.client, row.number) q ≡ tie
      turned = (eq_by_cmp_equiv (pairs numbers numbers).total).symm (row.client, row.number) q

      ends : is_known row.client ≡ false → (b : Bool) → tie ≡ b → cond (not b) (get left q) None ≡ due b
      ends gone true tied = sym (ap (λ b. cond (not b && true) None (get all q)) (ap is_known (same_client tied) ∙ gone))
      ends gone false apart = have q

      at : (b : Bool) → is_known row.client ≡ b → get (if b then left else remove left (row.client, row.number)) q ≡ due tie
      at true known = stays known tie refl
      at false gone = get-remove left (row.client, row.number) q ∙ ap (λ b. cond (not b) (get left q) None) turned ∙ ends gone tie refl

  -- after all rows, those that are left are the leases of known clients
  pub all_ended : (leases : Leases) (rows : List LeaseRow) (left : LeaseTable) → listed_table rows ≡ leases.rows → HaveEnded leases.rows rows left → left ≡ (of_clients clients leases).rows
  all_ended leases rows left same have =
      same_table _ _ (λ q.
      have q
      ∙ ap (λ (t : LeaseTable). cond (not (is_known q.0) && is_some (get t q)) None (get leases.rows q)) same
      ∙ at (is_known q.0) (get leases.rows q)
      ∙ sym (get-retain (λ (key : ℕ × ℕ). is_known key.0) leases.rows q))
    where
      at : (b : Bool) (o : Option Lease) → cond (not b && is_some o) None o ≡ cond b o None
      at true o = refl
      at false None = refl
      at false (Some lease) = refl

  pub lawful_left : (leases : Leases) (known : List Client) (heads : ℕ → Option Header) → AreLawful known heads leases → AreLawful clients heads (of_clients clients leases)
  lawful_left leases known heads lawful = record {
    known = λ client number there. (at client number (is_known client) refl there).0;
    on_nodes = λ client number there. lawful.on_nodes client number (at client number (is_known client) refl there).1;
    in_force = in_force-fewer leases lawful.in_force (λ key. is_known key.0);
  }
    where
      at : (client number : ℕ) (b : Bool) → is_known client ≡ b → is_some (get (retain (λ (key : ℕ × ℕ). is_known key.0) leases.rows) (client, number)) ≡ true
          → (is_known client ≡ true) × (is_some (get leases.rows (client, number)) ≡ true)
      at client number b is there = by b is (sym (ap is_some (get-retain (λ (key : ℕ × ℕ). is_known key.0) leases.rows (client, number))) ∙ there)
        where
          by : (b : Bool) → is_known client ≡ b → is_some (cond (is_known client) (get leases.rows (client, number)) None) ≡ true → (is_known client ≡ true) × (is_some (get leases.rows (client, number)) ≡ true)
          by true is' some = (is', sym (ap (λ c. is_some (cond c (get leases.rows (client, number)) None)) is') ∙ some)
          by false is' some = let none : is_some (cond false (get leases.rows (client, number)) None) ≡ true = sym (ap (λ c. is_some (cond c (get leases.rows (client, number)) None)) is') ∙ some in cc

  pub left_in_force : (leases : Leases) → AreInForce leases → AreInForce (of_clients clients leases)
  left_in_force leases in_force = in_force-fewer leases in_force (λ key. is_known key.0)

  -- the same of the rows that were listed
  pub left_is : (leases : Leases) (items rows : List CodeRow) (i : ℕ) (left : LeaseTable) → items ≡ rows → length items ≤ i → listed_leases leases.moment (rows_shown rows) ≡ leases
      → HaveEnded leases.rows (rows_shown (take i items)) left → left ≡ (of_clients clients leases).rows
  left_is leases items rows i left are behind same have =
      let all : rows_shown (take i items) ≡ rows_shown rows = ap rows_shown (take_all i items behind ∙ are) in
      all_ended leases (rows_shown rows) left (ap (λ (l : Leases). l.rows) same) (subst (λ rs. HaveEnded leases.rows rs left) all have)
