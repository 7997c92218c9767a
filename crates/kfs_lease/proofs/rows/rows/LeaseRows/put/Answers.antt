use Rattle.std.proofs.Common.{ℕ, Some, refl, sym, subst, ◌∙◌}
use Rattle.kfs_model.specs.Table.{changed}
use Rattle.kfs_maps.specs.Chunks.Tables.{table_after}
use Rattle.kfs_lease.specs.Rows.Rows.{by_end, row_table, end_table, client_table, AreEndsOf}
use Rattle.kfs_lease.proofs.RowsLemmas.Edits.{one_ascends}
use Rattle.kfs_lease.proofs.RowsLemmas.RowSteps.{exact_with, keys_set}
use Rattle.kfs_lease.proofs.rows.rows.LeaseRows.put.Goals as goal

pub replace-requires-clause-there : goal.replace-requires-clause-there
replace-requires-clause-there g c = sym c.requires.old ∙ c.in-Some.is

pub change_row-requires-clause-ends : goal.change_row-requires-clause-ends
change_row-requires-clause-ends g c = one_ascends by_end.compare c.listed.result

pub change_row-requires-clause-exact : goal.change_row-requires-clause-exact
unfolding table_after
change_row-requires-clause-exact g c =
    let rows = c.args.self.now in
    let key : ℕ × ℕ = (c.args.number, c.args.client) in
    subst (λ e. AreEndsOf (changed (row_table rows) key (Some c.args.lease)) (changed (end_table rows) e.key e.value)) (sym c.listed.ensures)
    (exact_with (row_table rows) (end_table rows) c.requires.indexed.ends key c.args.lease (sym c.requires.old ∙ c.in-None.is))

pub change_row-requires-clause-keys : goal.change_row-requires-clause-keys
unfolding table_after
change_row-requires-clause-keys g c =
    let rows = c.args.self.now in
    keys_set (row_table rows) (client_table rows) c.requires.indexed.clients (c.args.number, c.args.client) (Some c.args.lease) (Some tt) refl

pub returns-in-None-clause-table : goal.returns-in-None-clause-table
unfolding changed
returns-in-None-clause-table g c = c.change_row.ensures.table
