use Rattle.std.proofs.Common.{sym, subst, ◌∙◌}
use Rattle.std.specs.Prelude.{IfNone}
use Rattle.kfs_lease.specs.Rows.OfClients.{NoneOf}
use Rattle.kfs_lease.specs.Rows.Rows.{row_table}
use Rattle.kfs_lease.proofs.RowsLemmas.OfClients.{is_next_of, none_of, row_there}
use Rattle.kfs_lease.proofs.rows.rows.LeaseRows.next_of.Goals as goal

pub returns-clause-next : goal.returns-clause-next
returns-clause-next g c =
    is_next_of c.args.self.now c.requires c.args.client c.args.after c.in_ok-number.number c.in_ok-lease.lease c.in_ok-number.ensures.next (sym (c.in_ok-lease.ensures ∙ c.get.ensures))

pub returns-in_err-number-clause-none : goal.returns-in_err-number-clause-none
returns-in_err-number-clause-none g c =
    subst (λ r. IfNone r (NoneOf (row_table c.args.self.now) c.args.client c.args.after)) (sym c.from_residual.ensures) (none_of c.args.self.now c.requires c.args.client c.args.after c.in_err-number.ensures.none)

pub returns-in_err-lease-clause-none : goal.returns-in_err-lease-clause-none
returns-in_err-lease-clause-none g c =
    subst (λ r. IfNone r (NoneOf (row_table c.args.self.now) c.args.client c.args.after)) (sym c.from_residual-in_err-lease.ensures)
    (λ node behind. absurd (row_there c.args.self.now c.requires c.args.client c.args.after c.in_ok-number.number c.in_ok-number.ensures.next.found (sym (c.in_err-lease.ensures ∙ c.get.ensures))))
