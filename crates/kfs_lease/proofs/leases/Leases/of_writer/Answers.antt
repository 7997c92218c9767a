use Rattle.std.proofs.Common.{◌≡◌, sym, ap, subst, ◌∙◌, arith}
use Rattle.std.proofs.Math.ListN.{drop_of_length-le}
use Rattle.kfs_model.specs.Table.{empty}
use Rattle.kfs_model.specs.Lease.{LeaseTable}
use Rattle.kfs_lease.specs.InForce.{AreInForce}
use Rattle.kfs_lease.specs.Rows.Rows.{table_in}
use Rattle.kfs_lease.specs.Writer.{with_writes}
use Rattle.kfs_lease.proofs.LeasesInForce.{writer_in_force}
use Rattle.kfs_lease.proofs.leases.Leases.of_writer.Goals as goal

pub invariant_of-result : goal.invariant_of-result
invariant_of-result g c =
    let numbers = c.args.numbers.now in
    let all : table_in c.loop-number.rows ≡ with_writes empty c.args.client numbers =
    ap (with_writes (table_in c.loop-number.rows) c.args.client) (sym (drop_of_length-le numbers (omega (arith, c.loop-number-test.false)))) ∙ c.loop-number.invariant.left in
    (c.loop-number.invariant.indexed, subst (λ (t : LeaseTable). AreInForce (record { rows = t; moment = 0 })) (sym all) (writer_in_force c.args.client numbers))
