-- The first other client of a node tells whether a lease is in conflict, and which client's is the least such.
use Rattle.std.proofs.Common.{◌≡◌, ◌≢◌, ℕ, Bool, true, false, cond, not, ◌&&◌, ◌||◌, ◌==◌, T, List, [], ◌∷◌, Option, Some, None, option_map, refl, sym, ap, ◌∙◌, eq-eqb}
use Rattle.std.specs.Prelude.{find, is_some, IsSome}
use Rattle.std.specs.List.{AllByRecursion}
use Rattle.std.specs.declared.cmp.Ordering.{Ordering}
use Rattle.std.specs.declared.cmp.Ordering.TheVariants.{Less, Equal, Greater}
use Rattle.std.specs.Ordering.{nat_cmp, is_lt, eq_by_cmp}
use Rattle.std.specs.FinMap.Entries as sorted_entries
use Rattle.std.specs.List.Sorted.{IsStrictlySortedBy}
use Rattle.std.specs.Map.{lookup, keys_of}
use Rattle.std.specs.BTreeMap.{is_at}
use Rattle.std.proofs.Math.Bool.{and-false}
use Rattle.std.proofs.lemmas.Bool.{both_ways, false_from_ne_true, ne_eqb, or_parts}
use Rattle.std.proofs.lemmas.Option.{same_Some}
use borrow.Author.Tests.{eqb-true}
use Rattle.kfs_model.specs.Table.{pairs, numbers, get}
use Rattle.kfs_model.specs.Check.{is_some_and}
use Rattle.kfs_model.specs.Lease as model
use Rattle.kfs_model.proofs.Tables.{left_part, right_part}
use Rattle.kfs_maps.specs.Chunks.Tables.{table}
use Rattle.kfs_maps.proofs.ChunksLemmas.Tables.{get-table}
use Rattle.kfs_lease.specs.declared.rows.rows.Lease.{Lease}
use Rattle.kfs_lease.specs.InForce.{AreInForce}
use Rattle.kfs_lease.specs.Rows.Ending.{IsFirstOther, NoOtherOn}
use Rattle.kfs_lease.specs.Rows.Rows.{by_node, kind_of, lease_of, shown}
use Rattle.kfs_lease.proofs.RowsLemmas.RowTables.{get-shown}
use Rattle.kfs_lease.proofs.RowsLemmas.KeyOrder.{less_first}
use Rattle.kfs_lease.proofs.RowsLemmas.Least.{IsLeast, IsLine, passes, first_is_least, one_least, least_alike}

is_less : (o : Ordering) → T (is_lt o) → o ≡ Less
is_less Less t = refl
is_less Equal t = absurd t
is_less Greater t = absurd t

module _ {K X : Type 0} (R : K → K → Ordering) where
  same_find : (q : K) (es : List (K × X)) → sorted_entries.find R q es ≡ lookup (is_at (R q)) es
  same_find q [] = refl
  same_find q (e ∷ es) = ap (cond (eq_by_cmp R q e.0) (Some e.1)) (same_find q es)

  below : (k : K) (es : List (K × X)) → T (sorted_entries.below_all R k es) → AllByRecursion (λ y. R k y ≡ Less) (keys_of es)
  below k [] t = tt
  below k (e ∷ es) t = (is_less (R k e.0) (left_part (is_lt (R k e.0)) (sorted_entries.below_all R k es) t), below k es (right_part (is_lt (R k e.0)) (sorted_entries.below_all R k es) t))

  pub sorted_keys : (es : List (K × X)) → T (sorted_entries.is_sorted R es) → IsStrictlySortedBy R (keys_of es)
  unfolding IsStrictlySortedBy
  sorted_keys [] t = tt
  sorted_keys (e ∷ es) t = (below e.0 es (left_part (sorted_entries.below_all R e.0 es) (sorted_entries.is_sorted R es) t), sorted_keys es (right_part (sorted_entries.below_all R e.0 es) (sorted_entries.is_sorted R es) t))

-- whether a lease that another one holds keeps the client from a lease of this kind
abbrev bars : (client moment : ℕ) → model.LeaseKind → (holder : ℕ) → model.Lease → Bool
bars client moment kind holder lease = not (holder == client) && (model.is_live moment lease && (model.is_write kind || model.is_write lease.kind))

regrouped : (a b c d : Bool) → (a && (b && (c && d))) ≡ (a && b && c && d)
regrouped true true c d = refl
regrouped true false c d = refl
regrouped false b c d = refl

module _ (client number moment : ℕ) (kind : model.LeaseKind) where
  -- the table's keys of the node, by their clients
  table_line : IsLine (pairs numbers numbers) (λ c. (c, number)) (λ k. k.0) (λ k. k.1 == number)
  table_line = record {
    within = λ c. eq-eqb number number refl;
    again = λ c. refl;
    back = λ k is. let same : k.1 ≡ number = eqb-true k.1 number is in (λ i. (k.0, sym same i));
    rising = λ c d less. less_first c d (nat_cmp number number) less;
  }

  -- whether another client's lease keeps the client from one of this kind
  abbrev excludes : Lease → Bool
  excludes lease = model.is_live moment (lease_of lease) && (model.is_write kind || model.is_write (kind_of lease.kind))

  abbrev barred : ℕ → Lease → Bool
  barred other lease = bars client moment kind other (lease_of lease)

  -- whether another client has a lease on the node that keeps the client from one of this kind
  abbrev pub is_barred : List ((ℕ × ℕ) × Lease) → ℕ → Bool
  is_barred leases other = is_some_and (sorted_entries.find by_node.compare (number, other) leases) (barred other)

  conflicts_here : (t : model.LeaseTable) (row : (ℕ × ℕ) × model.Lease)
      → ((row.0.1 == number) && bars client moment kind row.0.0 row.1) ≡ model.conflicts (record { rows = t; moment = moment }) client number kind row
  conflicts_here t row = regrouped (row.0.1 == number) (not (row.0.0 == client)) (model.is_live moment row.1) (model.is_write kind || model.is_write row.1.kind)

  module _ (leases : List ((ℕ × ℕ) × Lease)) where
    abbrev t : model.LeaseTable
    t = shown (table by_node leases)

    abbrev table_passes : ℕ → Bool
    table_passes other = passes (pairs numbers numbers) (λ c. (c, number)) (λ k. k.0) (λ k. k.1 == number) (bars client moment kind) t.entries other

    in_both : (other : ℕ) → table_passes other ≡ is_barred leases other
    unfolding get
    in_both other =
        ap (λ o. is_some_and o (bars client moment kind other))
        (sym (same_find (pairs numbers numbers).compare (other, number) t.entries) ∙ get-shown (table by_node leases) (other, number) ∙ ap (option_map lease_of) (get-table by_node leases (number, other)))
        ∙ at (sorted_entries.find by_node.compare (number, other) leases)
      where
        at : (o : Option Lease) → is_some_and (option_map lease_of o) (bars client moment kind other) ≡ is_some_and o (barred other)
        at None = refl
        at (Some lease) = refl

    -- the least client with such a lease is the one in conflict
    pub is_conflict : (least : Option ℕ) → IsLeast (is_barred leases) least → least ≡ option_map (λ row. row.0.0) (model.in_conflict (record { rows = t; moment = moment }) client number kind)
    is_conflict least is =
        one_least table_passes least _
        (least_alike (is_barred leases) table_passes in_both least is)
        (first_is_least (pairs numbers numbers) (λ c. (c, number)) (λ k. k.0) (λ k. k.1 == number) (bars client moment kind) table_line t.entries (sorted_keys (pairs numbers numbers).compare t.entries t.sorted))
        ∙ (λ i. option_map (λ row. row.0.0) (find (λ row. conflicts_here t row i) t.entries))

    -- ---- the first other client of the node decides

    module _ (c : ℕ) where
      own_is_free : c ≡ client → is_barred leases c ≡ false
      own_is_free own = at (sorted_entries.find by_node.compare (number, c) leases)
        where
          at : (o : Option Lease) → is_some_and o (barred c) ≡ false
          at None = refl
          at (Some lease) = ap (λ b. not b && excludes lease) (eq-eqb c client own)

      other_is_barred : c ≢ client → (lease : Lease) → sorted_entries.find by_node.compare (number, c) leases ≡ Some lease → is_barred leases c ≡ excludes lease
      other_is_barred other lease has = ap (λ o. is_some_and o (barred c)) has ∙ ap (λ b. not b && excludes lease) (ne_eqb c client other)

      barred_has : is_barred leases c ≡ true → (c ≢ client) × IsSome (sorted_entries.find by_node.compare (number, c) leases)
      barred_has is = (λ own. both_ways _ (own_is_free own) is, at (sorted_entries.find by_node.compare (number, c) leases) is)
        where
          at : (o : Option Lease) → is_some_and o (barred c) ≡ true → IsSome o
          at None is = cc
          at (Some lease) is = refl

    -- where no other client has a lease on the node, none is in conflict
    pub none_in_conflict : NoOtherOn leases number client → IsLeast (is_barred leases) None
    none_in_conflict none c = false_from_ne_true _ (λ is. let (other, has) = barred_has c is in both_ways _ (ap is_some (none c other)) has)

    module _ (first : ℕ) (lease : Lease) (is_first : IsFirstOther leases number client first lease) where
      -- where it keeps the client out, it is the least in conflict
      pub first_is_least_barred : excludes lease ≡ true → IsLeast (is_barred leases) (Some first)
      first_is_least_barred held = (other_is_barred first is_first.apart lease is_first.found ∙ held, λ c is. let (other, has) = barred_has c is in is_first.least c other has)

      module _ (in_force : AreInForce (record { rows = t; moment = moment })) where
        shown_lease : (c : ℕ) (l : Lease) → sorted_entries.find by_node.compare (number, c) leases ≡ Some l → get t (c, number) ≡ Some (lease_of l)
        shown_lease c l has = get-shown (table by_node leases) (c, number) ∙ ap (option_map lease_of) (get-table by_node leases (number, c) ∙ has)

        live_lease : (c : ℕ) (l : Lease) → sorted_entries.find by_node.compare (number, c) leases ≡ Some l → model.HasLive (record { rows = t; moment = moment }) c number (lease_of l)
        live_lease c l has = (shown_lease c l has, in_force.live c number (lease_of l) (shown_lease c l has))

        -- what doesn't keep the client out, though it is live, is for reading, and so is the client's
        both_read : (l : Lease) → model.is_live moment (lease_of l) ≡ true → excludes l ≡ false → (model.is_write kind || model.is_write (kind_of l.kind)) ≡ false
        both_read l live free = ap (λ b. b && (model.is_write kind || model.is_write (kind_of l.kind))) (sym live) ∙ free

        -- where it doesn't, no other one does
        pub none_behind_first : excludes lease ≡ false → IsLeast (is_barred leases) None
        none_behind_first free c = false_from_ne_true _ (λ is. let (other, has) = barred_has c is in by other (sorted_entries.find by_node.compare (number, c) leases) refl has is)
          where
            mine : model.HasLive (record { rows = t; moment = moment }) first number (lease_of lease)
            mine = live_lease first lease is_first.found

            asked_to_read : model.is_write kind ≡ false
            asked_to_read = (or_parts _ _ (both_read lease mine.1 free)).0

            apart : c ≢ first → (l : Lease) → sorted_entries.find by_node.compare (number, c) leases ≡ Some l → excludes l ≡ false
            apart away l has =
                let read : kind_of l.kind ≡ model.ReadLease = in_force.compatible c first number (lease_of l) (lease_of lease) away (live_lease c l has) mine in
                ap (λ k. model.is_live moment (lease_of l) && (model.is_write kind || model.is_write k)) read ∙ ap (λ b. model.is_live moment (lease_of l) && (b || false)) asked_to_read ∙ and-false (model.is_live moment (lease_of l))

            by : c ≢ client → (o : Option Lease) → sorted_entries.find by_node.compare (number, c) leases ≡ o → IsSome o → is_barred leases c ≡ true → ⊥
            by other None none some is = cc
            by other (Some l) has some is = both_ways _ (other_is_barred c other l has ∙ at (c == first) refl) is
              where
                at : (b : Bool) → (c == first) ≡ b → excludes l ≡ false
                at true same = let here : Some l ≡ Some lease = sym has ∙ ap (λ n. sorted_entries.find by_node.compare (number, n) leases) (eqb-true c first same) ∙ is_first.found in ap (λ l. excludes l) (same_Some l lease here) ∙ free
                at false away = apart (λ same. both_ways _ away (eq-eqb c first same)) l has
