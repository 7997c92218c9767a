use Rattle.std.proofs.Common.{◌≡◌, ℕ, Some, None, option_map, refl, sym, ap, subst, ◌∙◌}
use Rattle.std.specs.Prelude.{is_some}
use Rattle.kfs_model.specs.Table.{get, changed}
use Rattle.kfs_maps.specs.Chunks.Tables.{table_after}
use Rattle.kfs_maps.proofs.ChunksLemmas.Tables.{get-table}
use Rattle.kfs_lease.specs.Rows.Rows.{by_node, by_end, lease_of, row_table, end_table, client_table, table_in, AreEndsOf}
use Rattle.kfs_lease.proofs.RowsLemmas.Edits.{one_ascends}
use Rattle.kfs_lease.proofs.RowsLemmas.RowSteps.{exact_without, keys_set, only_end, without_absent}
use Rattle.kfs_lease.proofs.RowsLemmas.RowTables.{get-shown}
use Rattle.kfs_lease.proofs.rows.rows.LeaseRows.take.Goals as goal

pub change_row-requires-clause-ends : goal.change_row-requires-clause-ends
change_row-requires-clause-ends g c = one_ascends by_end.compare c.unlisted.result

pub change_row-requires-clause-exact : goal.change_row-requires-clause-exact
unfolding table_after
change_row-requires-clause-exact g c =
    let rows = c.args.self.now in
    let key : ℕ × ℕ = (c.args.number, c.args.client) in
    let there : get (row_table rows) key ≡ Some c.in-Some.lease = get-table by_node rows.leases key ∙ sym (c.in-Some.ensures ∙ c.get.ensures) in
    subst (λ e. AreEndsOf (changed (row_table rows) key None) (changed (end_table rows) e.key e.value)) (sym c.unlisted.ensures)
    (exact_without (row_table rows) (end_table rows) c.requires.ends key c.in-Some.lease.end (only_end (get (row_table rows) key) c.in-Some.lease there))

pub change_row-requires-clause-keys : goal.change_row-requires-clause-keys
unfolding table_after
change_row-requires-clause-keys g c =
    let rows = c.args.self.now in
    keys_set (row_table rows) (client_table rows) c.requires.clients (c.args.number, c.args.client) None None refl

pub returns-clause-found : goal.returns-clause-found
returns-clause-found g c =
    let rows = c.args.self.now in
    let key : ℕ × ℕ = (c.args.number, c.args.client) in
    let there : get (row_table rows) key ≡ Some c.in-Some.lease = get-table by_node rows.leases key ∙ sym (c.in-Some.ensures ∙ c.get.ensures) in
    sym (ap is_some (get-shown (row_table rows) (c.args.client, c.args.number) ∙ ap (option_map lease_of) there))

pub returns-clause-table : goal.returns-clause-table
unfolding changed
returns-clause-table g c = c.in_ok-change_row.ensures.table

pub returns-in_default-clause-found : goal.returns-in_default-clause-found
returns-in_default-clause-found g c =
    let rows = c.args.self.now in
    let none : get (row_table rows) (c.args.number, c.args.client) ≡ None = get-table by_node rows.leases (c.args.number, c.args.client) ∙ sym (c.in_default.ensures ∙ c.get.ensures) in
    sym (ap is_some (get-shown (row_table rows) (c.args.client, c.args.number) ∙ ap (option_map lease_of) none))

pub returns-in_default-clause-table : goal.returns-in_default-clause-table
unfolding changed
returns-in_default-clause-table g c =
    let rows = c.args.self.now in
    let none : get (row_table rows) (c.args.number, c.args.client) ≡ None = get-table by_node rows.leases (c.args.number, c.args.client) ∙ sym (c.in_default.ensures ∙ c.get.ensures) in
    sym (without_absent (table_in rows) (c.args.client, c.args.number) (get-shown (row_table rows) (c.args.client, c.args.number) ∙ ap (option_map lease_of) none))
