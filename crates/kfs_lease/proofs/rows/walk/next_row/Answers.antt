use Rattle.std.proofs.Common.{◌≡◌, true, sym, subst}
use Rattle.std.specs.Prelude.{IfNone}
use Rattle.kfs_maps.specs.Chunks.Starts.{is_from, IsNextEntry}
use Rattle.kfs_lease.specs.Rows.Listed.{NoneFrom}
use Rattle.kfs_lease.specs.Rows.Rows.{by_node}
use Rattle.kfs_lease.proofs.rows.walk.next_row.Goals as goal

pub returns-in_err-key-clause-none : goal.returns-in_err-key-clause-none
returns-in_err-key-clause-none g c =
    subst (λ r. IfNone r (NoneFrom c.args.leases.now c.args.start.now)) (sym c.from_residual.ensures)
    (λ key from. c.in_err-key.ensures.none key (subst (λ b. is_from by_node.compare b key ≡ true) (sym c.as_ref.ensures) from))

pub returns-clause-next : goal.returns-clause-next
returns-clause-next g c = subst (λ b. IsNextEntry by_node.compare b c.args.leases.now c.in_ok-key.key.now c.in_ok-key.lease.now) c.as_ref.ensures c.in_ok-key.ensures.some
