use Rattle.std.proofs.Common.{ℕ, ◌≤◌, refl, sym, ap, subst, ◌∙◌}
use Rattle.kfs_model.specs.Lease.{live_at}
use Rattle.kfs_maps.proofs.ChunksLemmas.Tables.{get-table}
use Rattle.kfs_lease.specs.Rows.Ending.{rows_left, ends_left, clients_left}
use Rattle.kfs_lease.specs.Rows.Rows.{by_end, row_table, end_table, client_table, shown, RowTable}
use Rattle.kfs_lease.proofs.RowsLemmas.Endings.{listed_more, only_of_end, ends_gone_further, all_later}
use Rattle.kfs_lease.proofs.RowsLemmas.RowTables.{live_without}
use Rattle.kfs_lease.proofs.RowsLemmas.Walks.{next_fewer}
use Rattle.kfs_lease.proofs.rows.rows.LeaseRows.list_ended.Goals as goal

pub loop-end-init : goal.loop-end-init
loop-end-init g c = record {
  listed = c.requires.listed;
  gone = λ end out. cc;
  same = refl;
}

pub loop-end-smaller : goal.loop-end-smaller
loop-end-smaller g c = next_fewer by_end c.loop-end.start c.args.self.now.ends c.in-Some.end tt c.in-Some.ensures.next

pub loop-end-preserved : goal.loop-end-preserved
loop-end-preserved g c =
    let rows = c.args.self.now in
    let end = c.in-Some.end in
    let listed = c.loop-end.invariant.listed in
    let left = rows_left rows c.loop-end.ending in
    let left_ends = ends_left rows c.loop-end.ending in
    let left_keys = clients_left rows c.loop-end.ending in
    let less = c.in_ok-add.ensures.rows (row_table rows) in
    let ends_less = c.in_ok-add.ensures.ends (end_table rows) in
    let only = only_of_end (row_table rows) (end_table rows) left left_ends left_keys listed end.key end.end c.requires.indexed.ends (get-table by_end rows.ends end ∙ c.in-Some.ensures.next.found) in
    record {
      listed =
          listed_more (row_table rows) (end_table rows) left left_ends left_keys listed end.key end.end only
          (rows_left rows c.add.new.self) (ends_left rows c.add.new.self) (clients_left rows c.add.new.self) less ends_less (c.in_ok-add.ensures.of_clients (client_table rows));
      gone =
          ends_gone_further rows.ends left left_ends listed.exact listed.ends_part c.loop-end.start c.loop-end.invariant.gone end c.in-Some.ensures.next
          (ends_left rows c.add.new.self) ends_less;
      same =
          ap (λ (t : RowTable). live_at c.args.moment (shown t)) less
          ∙ live_without c.args.moment left end.key (λ other is. subst (λ (n : ℕ). n ≤ c.args.moment) (only other is) c.in-Some.ensures.ended)
          ∙ c.loop-end.invariant.same;
    }

pub returns-clause-left : goal.returns-clause-left
returns-clause-left g c =
    let rows = c.args.self.now in
    let listed = c.loop-end.invariant.listed in
    sym (all_later rows.ends (rows_left rows c.loop-end.ending) (ends_left rows c.loop-end.ending) listed.exact listed.ends_part c.loop-end.start c.args.moment c.loop-end.invariant.gone c.in_default.ensures.none)
    ∙ c.loop-end.invariant.same
