use Rattle.std.proofs.Common.{◌≡◌, ◌≤◌, Ok, Err, sym, ap, subst, ◌∙◌}
use Rattle.kfs_model.specs.Table.{insert}
use Rattle.kfs_model.specs.Lease.{Leases, Lease, LeaseHeld, granted_by_number}
use Rattle.kfs_types.specs.Views.{header_of}
use Rattle.kfs_image_nodes.specs.Contents.{sight_of}
use Rattle.kfs_lease.specs.Rows.Rows.{kind_of, table_in}
use Rattle.kfs_lease.proofs.Grants.{no_client_there, no_node_there, not_allowed, in_the_past_there, held_there, given_there}
use Rattle.kfs_lease.proofs.LeasesInForce.{in_force-insert, in_force-changed, none_mapped}
use Rattle.kfs_lease.proofs.leases.Leases.grant_at.Goals as goal

pub returns-in_default-clause-err : goal.returns-in_default-clause-err
returns-in_default-clause-err g c =
    no_client_there c.args.self.now (sight_of c.args.shape.now) c.args.clients.now c.args.client c.args.number (kind_of c.args.kind) c.args.end c.in_default.ensures

pub returns-in_default-header_at-clause-err : goal.returns-in_default-header_at-clause-err
returns-in_default-header_at-clause-err g c =
    no_node_there c.args.self.now (sight_of c.args.shape.now) c.args.clients.now c.args.client c.args.number (kind_of c.args.kind) c.args.end
    c.in-Some.row.now c.in-Some.ensures c.in_default-header_at.ensures

pub returns-then-not-allowed-clause-err : goal.returns-then-not-allowed-clause-err
returns-then-not-allowed-clause-err g c =
    not_allowed c.args.self.now (sight_of c.args.shape.now) c.args.clients.now c.args.client c.args.number (kind_of c.args.kind) c.args.end
    c.in-Some.row.now c.in-Some.ensures (header_of c.in-Some-header_at.header) c.in-Some-header_at.ensures
    (sym c.may_lease-allowed.ensures ∙ c.if-not-allowed.true)

pub returns-then-end-self-clause-err : goal.returns-then-end-self-clause-err
returns-then-end-self-clause-err g c =
    in_the_past_there c.args.self.now (sight_of c.args.shape.now) c.args.clients.now c.args.client c.args.number (kind_of c.args.kind) c.args.end
    c.in-Some.row.now c.in-Some.ensures (header_of c.in-Some-header_at.header) c.in-Some-header_at.ensures
    (sym c.may_lease-allowed.ensures ∙ c.if-not-allowed.false)
    (subst (λ (l : Leases). c.args.end ≤ l.moment) c.self.view_is c.if-end-self.true)

pub returns-in-Err-clause-err : goal.returns-in-Err-clause-err
returns-in-Err-clause-err g c =
    let old : Leases = record { rows = table_in c.self.inside.rows; moment = c.self.inside.moment } in
    subst (λ (l : Leases). granted_by_number l (sight_of c.args.shape.now) c.args.clients.now c.args.client c.args.number (kind_of c.args.kind) c.args.end ≡ (Err (LeaseHeld c.in-Err.holder), l)) c.self.view_is
    (held_there old (sight_of c.args.shape.now) c.args.clients.now c.args.client c.args.number (kind_of c.args.kind) c.args.end
    c.in-Some.row.now c.in-Some.ensures (header_of c.in-Some-header_at.header) c.in-Some-header_at.ensures
    (sym c.may_lease-allowed.ensures ∙ c.if-not-allowed.false) c.if-end-self.false c.in-Err.holder c.in-Err.ensures.held)

pub returns-in_ok-put-in-Ok-clause-ok : goal.returns-in_ok-put-in-Ok-clause-ok
returns-in_ok-put-in-Ok-clause-ok g c =
    let old : Leases = record { rows = table_in c.self.inside.rows; moment = c.self.inside.moment } in
    ap (λ (l : Leases). granted_by_number l (sight_of c.args.shape.now) c.args.clients.now c.args.client c.args.number (kind_of c.args.kind) c.args.end) (sym c.self.view_is)
    ∙ given_there old (sight_of c.args.shape.now) c.args.clients.now c.args.client c.args.number (kind_of c.args.kind) c.args.end
    c.in-Some.row.now c.in-Some.ensures (header_of c.in-Some-header_at.header) c.in-Some-header_at.ensures
    (sym c.may_lease-allowed.ensures ∙ c.if-not-allowed.false) c.if-end-self.false c.in-Ok.ensures.free
    ∙ (λ i. (Ok c.args.number, record { rows = sym c.in_ok-put-in-Ok.ensures.table i; moment = c.self.inside.moment }))

pub invariant_of-self-in-Ok : goal.invariant_of-self-in-Ok
invariant_of-self-in-Ok g c =
    let rows = c.self.inside.rows in
    let old : Leases = record { rows = table_in rows; moment = c.self.inside.moment } in
    let lease : Lease = record { kind = kind_of c.args.kind; end = c.args.end } in (
      c.put.ensures.indexed,
      in_force-changed rows c.put.new.self (insert old.rows (c.args.client, c.args.number) lease) c.self.inside.moment c.put.result c.self.invariant.1
          (in_force-insert old c.self.invariant.1 c.args.client c.args.number (kind_of c.args.kind) c.args.end c.if-end-self.false (none_mapped (λ row. row.0.0) _ c.in-Ok.ensures.free))
          c.put.ensures.table c.put.ensures.err,
    )
