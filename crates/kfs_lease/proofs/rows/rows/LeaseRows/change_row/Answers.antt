use Rattle.std.proofs.Common.{◌≡◌, Ok, Err, option_map, ap, ◌∙◌}
use Rattle.std.specs.Prelude.{OnOk}
use Rattle.kfs_model.specs.Table.{changed}
use Rattle.kfs_maps.specs.Chunks.Tables.{table_after}
use Rattle.kfs_lease.specs.Rows.Rows.{lease_of, row_table, table_in, shown}
use Rattle.kfs_lease.proofs.RowsLemmas.RowTables.{shown_changed}
use Rattle.kfs_lease.proofs.rows.rows.LeaseRows.change_row.Goals as goal

pub change-requires-clause-exact : goal.change-requires-clause-exact
unfolding table_after
change-requires-clause-exact g c = c.requires.exact

pub change-requires-clause-keys : goal.change-requires-clause-keys
unfolding table_after
change-requires-clause-keys g c = c.requires.keys

pub returns-clause-table : goal.returns-clause-table
unfolding table_after
returns-clause-table g c =
    let old = c.args.self.now in
    let new = c.change.new.self in
    elim c.change.result as (λ r. OnOk r (row_table new ≡ changed (row_table old) c.args.key c.args.row) → OnOk r (table_in new ≡ changed (table_in old) (c.args.key.1, c.args.key.0) (option_map lease_of c.args.row))) [
      | Ok done ↦ λ made. ap shown made ∙ shown_changed (row_table old) c.args.key c.args.row
      | Err e ↦ λ none. none
    ] c.change.ensures.rows
