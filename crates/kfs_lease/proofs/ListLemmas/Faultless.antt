-- Rows without a fault are those of a lawful table.
use Rattle.std.proofs.Common.{◌≡◌, ℕ, ◌<◌, ⊎_elim, ◌||◌, not, Bool, true, false, cond, List, length, Option, Some, None, is_some, refl, sym, ap, subst, ◌∙◌, eq-eqb, arith}
use Rattle.std.specs.Prelude.{is_none, nat_le}
use Rattle.std.specs.List.{list_all, list_any}
use Rattle.std.proofs.lemmas.Bool.{both_ways, and_from, lt-ltb}
use Rattle.std.proofs.lemmas.Bool.Decides.{nat_tests}
use Rattle.kfs_model.specs.Access.{Client}
use Rattle.kfs_model.specs.Header.{Header}
use Rattle.kfs_model.specs.Lease.{AreCompatible, Lease, LeaseKind, ReadLease, WriteLease, is_write, row_of}
use Rattle.kfs_model.specs.Table.{get}
use Rattle.kfs_model.proofs.FirstAnswer.{each_from_none}
use Rattle.kfs_lease.specs.LeaseLists.{AreLawful, LeaseRow, LeaseRowFault, NotAscending, LeaseHeld, NoSuchNode, Past, UnknownClient, bars, fault_of_row, fault_of_rows, is_before, listed_leases, listed_table}
use Rattle.kfs_lease.proofs.ListLemmas.Found.{IsAmong, IsAt, either_first, found_at}

passed : (refused : Bool) (why : LeaseRowFault) (rest : Option LeaseRowFault) → cond refused (Some why) rest ≡ None → (refused ≡ false) × (rest ≡ None)
passed true why rest none = cc
passed false why rest none = (refl, none)

pub is_there : {X : Type 0} (o : Option X) → is_none o ≡ false → is_some o ≡ true
is_there None is = cc
is_there (Some x) is = refl

pub some_is : {X : Type 0} (o : Option X) → is_some o ≡ true → (x : X) × (o ≡ Some x)
some_is None some = cc
some_is (Some x) some = (x, refl)

pub for_reading : (kind : LeaseKind) → is_write kind ≡ false → kind ≡ ReadLease
for_reading ReadLease is = refl
for_reading WriteLease is = cc

module _ (clients : List Client) (heads : ℕ → Option Header) (moment : ℕ) where
  -- what a row without a fault has passed
  pub record HasPassed (earlier : List LeaseRow) (row : LeaseRow) : Type 0 where
    pub known : is_some (row_of clients row.client) ≡ true
    pub on_node : is_some (heads row.number) ≡ true
    pub live : moment < row.end
    pub ascends : list_all (λ other. is_before other row) earlier ≡ true
    pub alone : list_any (λ other. bars other row) earlier ≡ false

  pub has_passed : (earlier : List LeaseRow) (row : LeaseRow) → fault_of_row clients heads moment earlier row ≡ None → HasPassed earlier row
  has_passed earlier row none =
      let index = length earlier in
      let (known, none_then) = passed (is_none (row_of clients row.client)) (UnknownClient index) _ none in
      let (on_node, none_more) = passed (is_none (heads row.number)) (NoSuchNode index) _ none_then in
      let (later, none_still) = passed (nat_le row.end moment) (Past index) _ none_more in
      let (ascends, none_last) = passed (not (list_all (λ other. is_before other row) earlier)) (NotAscending index) _ none_still in
      let (alone, nothing) = passed (list_any (λ other. bars other row) earlier) (LeaseHeld index) None none_last in
      record { known = is_there (row_of clients row.client) known; on_node = is_there (heads row.number) on_node; live = above row.end later; ascends = not_not (list_all (λ other. is_before other row) earlier) ascends; alone = alone }
    where
      above : (end : ℕ) → nat_le end moment ≡ false → moment < end
      above end is = grind (arith, nat_tests)

      not_not : (b : Bool) → not b ≡ false → b ≡ true
      not_not true is = refl
      not_not false is = cc

  module _ (rows : List LeaseRow) (none : fault_of_rows clients heads moment rows ≡ None) where
    at_passed : (client number : ℕ) (lease : Lease) (at : IsAt rows client number lease) → HasPassed at.before at.row
    at_passed client number lease at = has_passed at.before at.row (each_from_none (fault_of_row clients heads moment) rows none at.before at.row at.rest at.is)

    compatible : AreCompatible (listed_leases moment rows)
    compatible client other number one two apart first second =
        let a = found_at rows client number one first.0 in
        let b = found_at rows other number two second.0 in
        let on_one : a.row.number ≡ b.row.number = a.on_node ∙ sym b.on_node in
        let kind_is : a.row.kind ≡ one.kind = ap (λ (l : Lease). l.kind) a.says in
        sym kind_is
        ∙ for_reading a.row.kind (
        ⊎_elim
        (λ (in_b : IsAmong b.before a.row). (both_read a.row b.row on_one (λ barred. both_ways _ (at_passed other number two b).alone (in_b.any (λ (x : LeaseRow). bars x b.row) barred))).0)
        (⊎_elim
        (λ (same : a.row ≡ b.row). absurd (apart (sym a.of_client ∙ ap (λ (x : LeaseRow). x.client) same ∙ b.of_client)))
        (λ (in_a : IsAmong a.before b.row). (both_read b.row a.row (sym on_one) (λ barred. both_ways _ (at_passed client number one a).alone (in_a.any (λ (x : LeaseRow). bars x a.row) barred))).1))
        (either_first a.row b.row a.before b.before a.rest b.rest (sym a.is ∙ b.is))
        )
      where
        both_read : (x y : LeaseRow) → x.number ≡ y.number → (bars x y ≡ true → ⊥) → (is_write x.kind ≡ false) × (is_write y.kind ≡ false)
        both_read x y same never = by (is_write x.kind) (is_write y.kind) (λ is. never (and_from _ _ (eq-eqb x.number y.number same) is))
          where
            by : (v w : Bool) → ((v || w) ≡ true → ⊥) → (v ≡ false) × (w ≡ false)
            by true w never' = absurd (never' refl)
            by false true never' = absurd (never' refl)
            by false false never' = (refl, refl)

    pub faultless_lawful : AreLawful clients heads (listed_leases moment rows)
    faultless_lawful = record {
      known = λ client number there.
          let (lease, is) = some_is (get (listed_table rows) (client, number)) there in
          let at = found_at rows client number lease is in
          subst (λ c. is_some (row_of clients c) ≡ true) at.of_client (at_passed client number lease at).known;
      on_nodes = λ client number there.
          let (lease, is) = some_is (get (listed_table rows) (client, number)) there in
          let at = found_at rows client number lease is in
          subst (λ n. is_some (heads n) ≡ true) at.on_node (at_passed client number lease at).on_node;
      in_force = record {
        live = λ client number lease is.
            let at = found_at rows client number lease is in
            lt-ltb moment lease.end (subst (λ (l : Lease). moment < l.end) at.says (at_passed client number lease at).live);
        compatible = compatible;
      };
    }
