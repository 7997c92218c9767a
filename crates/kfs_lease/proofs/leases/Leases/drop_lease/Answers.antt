use Rattle.std.proofs.Common.{not, Ok, Err, sym, ap, subst, ◌∙◌}
use Rattle.kfs_model.specs.Lease.{Leases, LeaseTable, NoLeaseHeld, dropped}
use Rattle.kfs_lease.specs.InForce.{AreInForce}
use Rattle.kfs_lease.specs.Rows.Rows.{table_in}
use Rattle.kfs_lease.proofs.Grants.{drop_without_client, drop_without_lease, lease_dropped, none_shown, some_not_none}
use Rattle.kfs_lease.proofs.LeasesInForce.{in_force-remove}
use Rattle.kfs_lease.proofs.leases.Leases.drop_lease.Goals as goal

pub returns-then-is_none-clause-err : goal.returns-then-is_none-clause-err
returns-then-is_none-clause-err g c =
    drop_without_client c.args.self.now c.args.clients.now c.args.client c.args.number
    (none_shown _ c.find_client.result _ c.find_client.ensures ∙ ap not c.if-is_none.ensures)

pub returns-then-not-found-clause-err : goal.returns-then-not-found-clause-err
returns-then-not-found-clause-err g c =
    let old : Leases = record { rows = table_in c.self.inside.rows; moment = c.self.inside.moment } in
    ap (λ (l : Leases). dropped l c.args.clients.now c.args.client c.args.number) (sym c.self.view_is)
    ∙ drop_without_lease old c.args.clients.now c.args.client c.args.number
    (none_shown _ c.find_client.result _ c.find_client.ensures ∙ ap not c.if-is_none.ensures)
    (some_not_none _ ∙ ap not (sym c.in_ok-found.ensures.found ∙ c.if-not-found.true))
    ∙ (λ i. (Err NoLeaseHeld, record { rows = table_in (sym (c.in_ok-found.ensures.kept c.if-not-found.true) i); moment = c.self.inside.moment }))

pub returns-clause-ok : goal.returns-clause-ok
returns-clause-ok g c =
    let old : Leases = record { rows = table_in c.self.inside.rows; moment = c.self.inside.moment } in
    ap (λ (l : Leases). dropped l c.args.clients.now c.args.client c.args.number) (sym c.self.view_is)
    ∙ lease_dropped old c.args.clients.now c.args.client c.args.number
    (none_shown _ c.find_client.result _ c.find_client.ensures ∙ ap not c.if-is_none.ensures)
    (some_not_none _ ∙ ap not (sym c.in_ok-found.ensures.found ∙ c.if-not-found.false))
    ∙ (λ i. (Ok c.args.number, record { rows = sym c.in_ok-found.ensures.table i; moment = c.self.inside.moment }))

pub invariant_of-self-2 : goal.invariant_of-self-2
invariant_of-self-2 g c =
    let old : Leases = record { rows = table_in c.self.inside.rows; moment = c.self.inside.moment } in (
      c.in_ok-found.ensures.indexed,
      subst (λ (t : LeaseTable). AreInForce (record { rows = t; moment = c.self.inside.moment })) (sym c.in_ok-found.ensures.table)
          (in_force-remove old c.self.invariant.1 (c.args.client, c.args.number)),
    )
