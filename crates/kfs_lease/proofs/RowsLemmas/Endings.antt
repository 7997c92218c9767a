-- Rows that are to go are listed one after another, and what is left stays in order.
use Rattle.std.proofs.Common.{◌≡◌, ℕ, ◌≤◌, ◌<◌, Bool, true, false, List, [], Option, Some, None, refl, sym, ap, subst, ◌∙◌, arith}
use Rattle.std.specs.Prelude.{is_some}
use Rattle.std.specs.declared.ops.Bound.{Bound}
use Rattle.std.specs.declared.ops.Bound.TheVariants.{Excluded}
use Rattle.std.specs.FinMap.Entries.{find}
use Rattle.std.proofs.lemmas.Bool.{both_ways}
use Rattle.kfs_model.specs.Table.{get, changed}
use Rattle.kfs_model.specs.Lease.{live_at}
use Rattle.kfs_maps.specs.Chunks.Starts.{is_from, IsNextEntry}
use Rattle.kfs_maps.specs.Chunks.Tables.{table}
use Rattle.kfs_maps.proofs.ChunksLemmas.Tables.{get-table}
use Rattle.kfs_maps.proofs.ChunksLemmas.Overlays.{overlaid_none}
use Rattle.kfs_lease.specs.declared.rows.rows.RowEnd.{RowEnd}
use Rattle.kfs_lease.specs.declared.rows.rows.Lease.{Lease}
use Rattle.kfs_lease.specs.declared.rows.rows.LeaseRows.{LeaseRows}
use Rattle.kfs_lease.specs.declared.rows.rows.Ending.{Ending}
use Rattle.kfs_lease.specs.Rows.Ending.{AreLater, AreLeft, AreListed, HasPart, NoneOn, rows_left, ends_left, clients_left, start_on}
use Rattle.kfs_lease.specs.Rows.Rows.{by_node, by_end, row_end, ends_at, row_table, end_table, client_table, shown, without_node, AreEndsOf, IndexesAreExact, RowTable, EndTable, ClientTable}
use Rattle.kfs_lease.proofs.RowsLemmas.KeyOrder.{first_part, from_first, from_node}
use Rattle.kfs_lease.proofs.RowsLemmas.RowSteps.{exact_without, keys_set, only_end}
use Rattle.kfs_lease.proofs.RowsLemmas.RowTables.{all_live, none_on_node}
use Rattle.kfs_lease.proofs.RowsLemmas.Walks.{gone_in_part, part_without, passed_gone}

-- ---- at first

module _ {A : Type 0} (rows : LeaseRows A) (ending : Ending A) where
  -- where no row is to go, all are left
  pub all_rows_left : ending.rows.latest.entries ≡ [] → rows_left rows ending ≡ row_table rows
  all_rows_left none = overlaid_none (row_table rows) ending.rows.latest.entries none

  pub none_listed : IndexesAreExact rows → ending.rows.latest.entries ≡ [] → ending.ends.latest.entries ≡ [] → ending.of_clients.latest.entries ≡ [] → AreListed rows ending
  none_listed exact no_row no_end no_key =
      subst (λ left. AreLeft (row_table rows) (end_table rows) left (ends_left rows ending) (clients_left rows ending)) (sym (all_rows_left no_row))
      (subst (λ left. AreLeft (row_table rows) (end_table rows) (row_table rows) left (clients_left rows ending)) (sym (overlaid_none (end_table rows) ending.ends.latest.entries no_end))
      (subst (AreLeft (row_table rows) (end_table rows) (row_table rows) (end_table rows)) (sym (overlaid_none (client_table rows) ending.of_clients.latest.entries no_key))
      (record { exact = exact.ends; clients = exact.clients; rows_part = λ key value is. is; ends_part = λ key value is. is })))

-- ---- one more

module _ (rows : RowTable) (ends : EndTable) (left : RowTable) (left_ends : EndTable) (left_keys : ClientTable) (are : AreLeft rows ends left left_ends left_keys) (key : ℕ × ℕ) (end : ℕ) where
  pub listed_more : ((other : ℕ) → ends_at (get left key) other ≡ true → end ≡ other) → (new : RowTable) (new_ends : EndTable) (new_keys : ClientTable) → new ≡ changed left key None → new_ends ≡ changed left_ends (row_end end key) None
      → new_keys ≡ changed left_keys (key.1, key.0) None → AreLeft rows ends new new_ends new_keys
  listed_more only new new_ends new_keys less ends_less keys_less =
      subst (λ t. AreLeft rows ends t new_ends new_keys) (sym less) (subst (λ t. AreLeft rows ends (changed left key None) t new_keys) (sym ends_less)
      (subst (AreLeft rows ends (changed left key None) (changed left_ends (row_end end key) None)) (sym keys_less)
      (record {
        exact = exact_without left left_ends are.exact key end only;
        clients = keys_set left left_keys are.clients key None None refl;
        rows_part = part_without rows left key are.rows_part;
        ends_part = part_without ends left_ends (row_end end key) are.ends_part;
      })))

  -- the end of a row that is there is its only one, as long as it is left
  pub only_of_row : (lease : Lease) → lease.end ≡ end → get rows key ≡ Some lease → (other : ℕ) → ends_at (get left key) other ≡ true → end ≡ other
  only_of_row lease same there other is = at (get left key) refl is
    where
      at : (o : Option Lease) → get left key ≡ o → ends_at o other ≡ true → end ≡ other
      at None gone is = cc
      at (Some held) has is = sym same ∙ only_end (Some held) lease (sym (are.rows_part key held has) ∙ there) other is

  pub only_of_end : AreEndsOf rows ends → get ends (row_end end key) ≡ Some tt → (other : ℕ) → ends_at (get left key) other ≡ true → end ≡ other
  only_of_end exact there other is = at (get rows key) refl
    where
      at : (o : Option Lease) → get rows key ≡ o → end ≡ other
      at None none = absurd (both_ways _ (ap (λ o. ends_at o end) none) (sym (exact end key) ∙ ap is_some there))
      at (Some lease) has = only_of_row lease (only_end (get rows key) lease has end (sym (exact end key) ∙ ap is_some there)) has other is

-- ---- the rows of a node

-- the node's rows before this start are gone
abbrev pub AreGone : (number : ℕ) (after : Option ℕ) → RowTable → Type 0
AreGone number after left = (client : ℕ) → is_from by_node.compare (start_on number after) (number, client) ≡ false → get left (number, client) ≡ None

pub none_gone : (number : ℕ) (left : RowTable) → AreGone number None left
none_gone number left client out = absurd (both_ways _ out (from_first number client))

module _ {V : Type 0} (leases : List ((ℕ × ℕ) × V)) (number : ℕ) (after : Option ℕ) where
  -- where the next entry has another first part, none is left with this one
  pub other_node : (key : ℕ × ℕ) (value : V) → IsNextEntry by_node.compare (start_on number after) leases key value → (key.0 ≡ number → ⊥) → NoneOn leases number after
  other_node key value next other client from = at (find by_node.compare (number, client) leases) refl
    where
      at : (o : Option V) → find by_node.compare (number, client) leases ≡ o → find by_node.compare (number, client) leases ≡ None
      at None none = none
      at (Some held) there =
          let at_most : key.0 ≤ number = first_part number key.0 _ (next.least (number, client) from (ap is_some there)) in
          let at_least : number ≤ key.0 = from_node number after key next.within in
          let here : key.0 ≡ number = omega (arith, at_most, at_least) in
          absurd (other here)

module _ (leases : List ((ℕ × ℕ) × Lease)) (number : ℕ) (after : Option ℕ) where
  module _ (left : RowTable) (has : HasPart (table by_node leases) left) where
    pub gone_further : AreGone number after left → (next : ℕ) (lease : Lease) → IsNextEntry by_node.compare (start_on number after) leases (number, next) lease
        → (new : RowTable) → new ≡ changed left (number, next) None → AreGone number (Some next) new
    gone_further gone next lease is_next new less client not_behind =
        ap (λ (t : RowTable). get t (number, client)) less
        ∙ passed_gone leases left has (start_on number after) (number, next) lease is_next (number, client) (gone client) not_behind

    -- where none comes from the start on, all of them are gone
    pub all_gone : AreGone number after left → NoneOn leases number after
        → without_node (shown left) number ≡ shown left
    all_gone gone none = none_on_node number left (λ client. at client (is_from by_node.compare (start_on number after) (number, client)) refl)
      where
        at : (client : ℕ) (b : Bool) → is_from by_node.compare (start_on number after) (number, client) ≡ b → get left (number, client) ≡ None
        at client true within = gone_in_part (table by_node leases) left has (number, client) (get-table by_node leases (number, client) ∙ none client within)
        at client false out = gone client out

-- ---- the rows that end by a moment

-- the ends before this start are gone
abbrev pub EndsAreGone : Bound RowEnd → EndTable → Type 0
EndsAreGone start left = (end : RowEnd) → is_from by_end.compare start end ≡ false → get left end ≡ None

module _ (ends : List (RowEnd × Unit {0})) (left : RowTable) (left_ends : EndTable) (exact : AreEndsOf left left_ends) (has : HasPart (table by_end ends) left_ends) (start : Bound RowEnd) where
  pub ends_gone_further : EndsAreGone start left_ends → (next : RowEnd) → IsNextEntry by_end.compare start ends next tt → (new : EndTable) → new ≡ changed left_ends next None → EndsAreGone (Excluded next) new
  ends_gone_further gone next is_next new less end not_behind =
      ap (λ (t : EndTable). get t end) less ∙ passed_gone ends left_ends has start next tt is_next end (gone end) not_behind

  -- where each end from the start on is above the moment, all rows that are left are live
  pub all_later : (moment : ℕ) → EndsAreGone start left_ends → AreLater ends start moment → live_at moment (shown left) ≡ shown left
  all_later moment gone later = all_live moment left (λ end key is. at end key is (is_from by_end.compare start (row_end end key)) refl (get left_ends (row_end end key)) refl)
    where
      at : (end : ℕ) (key : ℕ × ℕ) → ends_at (get left key) end ≡ true → (b : Bool) → is_from by_end.compare start (row_end end key) ≡ b → (o : Option (Unit {0})) → get left_ends (row_end end key) ≡ o → moment < end
      at end key is b from None none = absurd (both_ways _ (sym (exact end key) ∙ ap is_some none) is)
      at end key is true from (Some one) there = later end key from (ap is_some (sym (get-table by_end ends (row_end end key)) ∙ has (row_end end key) one there))
      at end key is false from (Some one) there = let never : None ≡ Some one = sym (gone (row_end end key) from) ∙ there in cc

-- where the first end from the start on is above the moment, all are
pub ends_later : (ends : List (RowEnd × Unit {0})) (start : Bound RowEnd) (first : RowEnd) → IsNextEntry by_end.compare start ends first tt → (moment : ℕ) → moment < first.end
    → AreLater ends start moment
ends_later ends start first next moment later end key from there =
    let not_before : first.end ≤ end = first_part end first.end _ (next.least (row_end end key) from there) in
    omega (arith, later, not_before)
