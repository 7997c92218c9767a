use Rattle.std.proofs.Common.{ℕ, refl, sym, ap, ◌∙◌}
use Rattle.kfs_maps.proofs.ChunksLemmas.Tables.{get-table}
use Rattle.kfs_lease.specs.Rows.Ending.{rows_left, ends_left, clients_left, start_on}
use Rattle.kfs_lease.specs.Rows.Rows.{by_node, row_table, end_table, client_table, shown, without_node, RowTable}
use Rattle.kfs_lease.proofs.RowsLemmas.Endings.{listed_more, only_of_row, none_gone, gone_further, all_gone}
use Rattle.kfs_lease.proofs.RowsLemmas.RowTables.{others_without}
use Rattle.kfs_lease.proofs.RowsLemmas.Walks.{next_fewer}
use Rattle.kfs_lease.proofs.rows.rows.LeaseRows.list_on.Goals as goal

pub loop-client-init : goal.loop-client-init
loop-client-init g c = record {
  listed = c.requires;
  gone = none_gone c.args.number (rows_left c.args.self.now c.args.ending.now);
  same = refl;
}

pub loop-client-smaller : goal.loop-client-smaller
loop-client-smaller g c =
    next_fewer by_node (start_on c.args.number c.loop-client.after) c.args.self.now.leases (c.args.number, c.in-Some.client) c.in-Some.lease c.in-Some.ensures.next

pub loop-client-preserved : goal.loop-client-preserved
loop-client-preserved g c =
    let rows = c.args.self.now in
    let key : ℕ × ℕ = (c.args.number, c.in-Some.client) in
    let listed = c.loop-client.invariant.listed in
    let left = rows_left rows c.loop-client.ending in
    let left_ends = ends_left rows c.loop-client.ending in
    let left_keys = clients_left rows c.loop-client.ending in
    let less = c.in_ok-add.ensures.rows (row_table rows) in
    record {
      listed =
          listed_more (row_table rows) (end_table rows) left left_ends left_keys listed key c.in-Some.lease.end
          (only_of_row (row_table rows) (end_table rows) left left_ends left_keys listed key c.in-Some.lease.end c.in-Some.lease refl (get-table by_node rows.leases key ∙ c.in-Some.ensures.next.found))
          (rows_left rows c.add.new.self) (ends_left rows c.add.new.self) (clients_left rows c.add.new.self) less (c.in_ok-add.ensures.ends (end_table rows)) (c.in_ok-add.ensures.of_clients (client_table rows));
      gone =
          gone_further rows.leases c.args.number c.loop-client.after left listed.rows_part c.loop-client.invariant.gone c.in-Some.client c.in-Some.lease c.in-Some.ensures.next
          (rows_left rows c.add.new.self) less;
      same =
          ap (λ (t : RowTable). without_node (shown t) c.args.number) less
          ∙ others_without c.args.number left c.in-Some.client
          ∙ c.loop-client.invariant.same;
    }

pub returns-clause-left : goal.returns-clause-left
returns-clause-left g c =
    let rows = c.args.self.now in
    let left = rows_left rows c.loop-client.ending in
    sym (all_gone rows.leases c.args.number c.loop-client.after left c.loop-client.invariant.listed.rows_part c.loop-client.invariant.gone c.in_default.ensures.none)
    ∙ c.loop-client.invariant.same
