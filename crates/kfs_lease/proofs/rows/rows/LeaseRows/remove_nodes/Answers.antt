use Rattle.std.proofs.Common.{ap}
use Rattle.kfs_lease.specs.Rows.Rows.{shown, without_nodes, RowTable}
use Rattle.kfs_lease.proofs.RowsLemmas.Endings.{all_rows_left, none_listed}
use Rattle.kfs_lease.proofs.rows.rows.LeaseRows.remove_nodes.Goals as goal

pub loop-number-init : goal.loop-number-init
loop-number-init g c = record {
  listed = none_listed c.args.self.now c.none-ending.result c.requires.indexed c.none-ending.ensures.rows c.none-ending.ensures.ends c.none-ending.ensures.of_clients;
  left = ap (λ (t : RowTable). without_nodes (shown t) c.args.numbers.now) (all_rows_left c.args.self.now c.none-ending.result c.none-ending.ensures.rows);
}
