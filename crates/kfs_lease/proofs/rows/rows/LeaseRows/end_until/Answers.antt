use Rattle.std.proofs.Common.{◌≡◌, Ok, Err, ap, ◌∙◌}
use Rattle.std.specs.Prelude.{OnOk}
use Rattle.kfs_model.specs.Lease.{live_at}
use Rattle.kfs_lease.specs.Rows.Ending.{rows_left}
use Rattle.kfs_lease.specs.Rows.Rows.{row_table, table_in, shown, RowTable}
use Rattle.kfs_lease.proofs.RowsLemmas.Endings.{all_rows_left, none_listed}
use Rattle.kfs_lease.proofs.rows.rows.LeaseRows.end_until.Goals as goal

pub list_ended-requires-clause-listed : goal.list_ended-requires-clause-listed
list_ended-requires-clause-listed g c = none_listed c.args.self.now c.none-ending.result c.requires c.none-ending.ensures.rows c.none-ending.ensures.ends c.none-ending.ensures.of_clients

pub returns-clause-table : goal.returns-clause-table
returns-clause-table g c =
    let rows = c.args.self.now in
    let left = c.in_ok-list_ended.ensures.left ∙ ap (λ (t : RowTable). live_at c.args.moment (shown t)) (all_rows_left rows c.none-ending.result c.none-ending.ensures.rows) in
    elim c.end_all.result as (λ r. OnOk r (row_table c.end_all.new.self ≡ rows_left rows c.list_ended.new.ending) → OnOk r (table_in c.end_all.new.self ≡ live_at c.args.moment (table_in rows))) [
      | Ok done ↦ λ ended. ap shown ended ∙ left
      | Err e ↦ λ none. none
    ] c.end_all.ensures.rows
