use Rattle.std.proofs.Common.{option_map, sym, ap, ◌∙◌}
use Rattle.kfs_maps.proofs.ChunksLemmas.Tables.{get-table}
use Rattle.kfs_lease.specs.Rows.Rows.{lease_of, by_node, row_table}
use Rattle.kfs_lease.proofs.RowsLemmas.RowTables.{get-shown}
use Rattle.kfs_lease.proofs.rows.rows.LeaseRows.lease.Goals as goal

pub returns : goal.returns
returns g c =
    ap (option_map lease_of) (c.copied.ensures ∙ c.get.ensures ∙ sym (get-table by_node c.args.self.now.leases (c.args.number, c.args.client)))
    ∙ sym (get-shown (row_table c.args.self.now) (c.args.client, c.args.number))
