use Rattle.std.proofs.Common.{◌≡◌, Option, Some, None, false, sym, ◌∙◌}
use Rattle.std.specs.Prelude.{option_map, is_some}
use Rattle.kfs_lease.specs.declared.rows.rows.Lease.{Lease}
use Rattle.kfs_lease.specs.Rows.Rows.{lease_of, row_table}
use Rattle.kfs_lease.proofs.RowsLemmas.RowTables.{get-shown}
use Rattle.kfs_lease.proofs.leases.writer.add_write.Goals as goal

none_behind : (o told : Option Lease) → is_some told ≡ false → option_map lease_of told ≡ option_map lease_of o → None ≡ o
none_behind None None none same = cc
none_behind None (Some lease) none same = cc
none_behind (Some other) None none same = cc
none_behind (Some other) (Some lease) none same = cc

pub put-requires-clause-old : goal.put-requires-clause-old
put-requires-clause-old g c =
    none_behind _ c.lease.result (sym c.is_some.ensures ∙ c.if-is_some.false) (c.lease.ensures ∙ get-shown (row_table c.args.rows.now) (c.args.client, c.args.number))
