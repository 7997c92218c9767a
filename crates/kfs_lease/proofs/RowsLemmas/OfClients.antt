-- The rows of one client are found by the turned keys.
use Rattle.std.proofs.Common.{◌≡◌, ℕ, false, Option, Some, None, refl, sym, ap, ◌∙◌}
use Rattle.std.specs.Prelude.{is_some}
use Rattle.std.specs.FinMap.Entries.{find}
use Rattle.std.proofs.lemmas.Bool.{both_ways}
use Rattle.kfs_model.specs.Table.{get}
use Rattle.kfs_maps.specs.Chunks.Starts.{IsNextEntry}
use Rattle.kfs_maps.proofs.ChunksLemmas.Tables.{get-table}
use Rattle.kfs_lease.specs.declared.rows.rows.Lease.{Lease}
use Rattle.kfs_lease.specs.declared.rows.rows.LeaseRows.{LeaseRows}
use Rattle.kfs_lease.specs.Rows.Ending.{NoneOn, start_on}
use Rattle.kfs_lease.specs.Rows.OfClients.{IsNextOf, NoneOf}
use Rattle.kfs_lease.specs.Rows.Rows.{by_client, by_node, row_table, IndexesAreExact}

module _ {A : Type 0} (rows : LeaseRows A) (exact : IndexesAreExact rows) (client : ℕ) (after : Option ℕ) where
  listed_there : (node : ℕ) → is_some (find by_client.compare (client, node) rows.of_clients) ≡ is_some (get (row_table rows) (node, client))
  listed_there node = ap is_some (sym (get-table by_client rows.of_clients (client, node))) ∙ exact.clients (node, client)

  pub is_next_of : (node : ℕ) (lease : Lease) → IsNextEntry by_client.compare (start_on client after) rows.of_clients (client, node) tt → find by_node.compare (node, client) rows.leases ≡ Some lease
      → IsNextOf (row_table rows) client after node lease
  is_next_of node lease next there = record {
    found = get-table by_node rows.leases (node, client) ∙ there;
    behind = next.within;
    least = λ n behind has. next.least (client, n) behind (listed_there n ∙ has);
  }

  pub none_of : NoneOn rows.of_clients client after → NoneOf (row_table rows) client after
  none_of none node behind = gone (get (row_table rows) (node, client)) (sym (listed_there node) ∙ ap is_some (none node behind))
    where
      gone : (o : Option Lease) → is_some o ≡ false → o ≡ None
      gone None is = refl
      gone (Some lease) is = cc

  -- a turned key that is listed has its row
  pub row_there : (node : ℕ) → find by_client.compare (client, node) rows.of_clients ≡ Some tt → find by_node.compare (node, client) rows.leases ≡ None → ⊥
  row_there node listed none =
      both_ways _ (ap is_some (get-table by_node rows.leases (node, client) ∙ none)) (sym (listed_there node) ∙ ap is_some listed)
