-- Edits of rows with the edits of both indexes.
use Rattle.std.proofs.Common.{◌≡◌, ℕ, zero, suc, ◌<◌, List, [], ◌∷◌, Result, Ok, Err, sym, ap, subst, ◌∙◌, arith}
use Rattle.std.specs.Prelude.{OnOk, OnErr}
use Rattle.std.specs.declared.cmp.Ordering.{Ordering}
use Rattle.std.specs.declared.cmp.Ordering.TheVariants.{Less}
use Rattle.kfs_maps.specs.declared.chunks.entries.KeyEdit.{KeyEdit}
use Rattle.kfs_maps.specs.Chunks.Edits.{rewritten, KeysAscend}
use Rattle.kfs_maps.specs.Chunks.Tables.{table, table_after}
use Rattle.kfs_maps.proofs.ChunksLemmas.Tables.{table-rewritten}
use Rattle.kfs_lease.specs.declared.rows.rows.RowEnd.{RowEnd}
use Rattle.kfs_lease.specs.declared.rows.rows.Lease.{Lease}
use Rattle.kfs_lease.specs.declared.rows.rows.LeaseRows.{LeaseRows}
use Rattle.kfs_lease.specs.Rows.Rows.{by_node, by_end, by_client, row_end, row_table, end_table, client_table, AreEndsOf, AreKeysOf, IndexesAreExact}
use Rattle.kfs_lease.proofs.RowsLemmas.KeyOrder.{less_first}

module _ {K V : Type 0} (cmp : K → K → Ordering) where
  pub one_ascends : (e : KeyEdit K V) → KeysAscend cmp (e ∷ [])
  one_ascends e i j d less below = absurd (omega (arith, less, below))

  pub two_ascend : (e f : KeyEdit K V) → cmp e.key f.key ≡ Less → KeysAscend cmp (e ∷ f ∷ [])
  two_ascend e f first zero zero d less below = absurd (omega (arith, less))
  two_ascend e f first zero (suc zero) d less below = first
  two_ascend e f first zero (suc (suc j)) d less below = absurd (omega (arith, below))
  two_ascend e f first (suc i) j d less below = absurd (omega (arith, less, below))

module _ {A : Type 0} (old new : LeaseRows A) (rows : List (KeyEdit (ℕ × ℕ) Lease)) (ends : List (KeyEdit RowEnd (Unit {0}))) (keys : List (KeyEdit (ℕ × ℕ) (Unit {0}))) where
  rows_after : new.leases ≡ rewritten by_node old.leases rows → row_table new ≡ table_after (row_table old) rows
  rows_after edited = ap (table by_node) edited ∙ table-rewritten by_node old.leases rows

  ends_after : new.ends ≡ rewritten by_end old.ends ends → end_table new ≡ table_after (end_table old) ends
  ends_after edited = ap (table by_end) edited ∙ table-rewritten by_end old.ends ends

  keys_after : new.of_clients ≡ rewritten by_client old.of_clients keys → client_table new ≡ table_after (client_table old) keys
  keys_after edited = ap (table by_client) edited ∙ table-rewritten by_client old.of_clients keys

  module _ {E : Type 0} where
    pub rows_made : (result : Result (Unit {0}) E) → OnOk result (new.leases ≡ rewritten by_node old.leases rows) → OnOk result (row_table new ≡ table_after (row_table old) rows)
    rows_made (Ok done) edited = rows_after edited
    rows_made (Err error) edited = tt

    -- Edits after which both indexes are those of the rows keep them so, made or not.
    pub exact_after : (result : Result (Unit {0}) E) → AreEndsOf (table_after (row_table old) rows) (table_after (end_table old) ends) → AreKeysOf (table_after (row_table old) rows) (table_after (client_table old) keys) → IndexesAreExact old
        → OnOk result (new.leases ≡ rewritten by_node old.leases rows) → OnOk result (new.ends ≡ rewritten by_end old.ends ends) → OnOk result (new.of_clients ≡ rewritten by_client old.of_clients keys) → OnErr result (new ≡ old) → IndexesAreExact new
    exact_after (Ok done) exact keys_exact indexed edited ends_edited keys_edited kept = record {
      ends = subst (λ t. AreEndsOf t (end_table new)) (sym (rows_after edited)) (subst (AreEndsOf (table_after (row_table old) rows)) (sym (ends_after ends_edited)) exact);
      clients = subst (λ t. AreKeysOf t (client_table new)) (sym (rows_after edited)) (subst (AreKeysOf (table_after (row_table old) rows)) (sym (keys_after keys_edited)) keys_exact);
    }
    exact_after (Err error) exact keys_exact indexed edited ends_edited keys_edited kept = subst (IndexesAreExact {A = A}) (sym kept) indexed

-- edits of two ends of a row, the earlier one first
pub ends_ascend : (e f : KeyEdit RowEnd (Unit {0})) (first second : ℕ) (key : ℕ × ℕ) → e.key ≡ row_end first key → f.key ≡ row_end second key → first < second → KeysAscend by_end.compare (e ∷ f ∷ [])
ends_ascend e f first second key one two less = two_ascend by_end.compare e f ((λ i. by_end.compare (one i) (two i)) ∙ less_first first second (by_node.compare key key) less)
