use Rattle.std.proofs.Common.{◌≡◌, ◌≤◌, Ok, Err, sym, ap, subst, ◌∙◌}
use Rattle.std.proofs.lemmas.Result.{err_from_is_err_and}
use Rattle.kfs_model.specs.Table.{insert}
use Rattle.kfs_model.specs.Lease.{Leases, Lease, LeaseHeld, walked, granted}
use Rattle.kfs_image_nodes.specs.Contents.{sight_of}
use Rattle.kfs_lease.specs.Faults.{fault_of}
use Rattle.kfs_lease.specs.Rows.Rows.{kind_of, table_in}
use Rattle.kfs_lease.specs.Paths.{parts_left}
use Rattle.kfs_lease.proofs.Grants.{no_client, no_path, no_node, in_the_past, held_by_another, given, if_weaker}
use Rattle.kfs_lease.proofs.LeasesInForce.{in_force-insert, in_force-changed, none_mapped}
use Rattle.kfs_lease.proofs.leases.Leases.grant.Goals as goal

pub returns-in_default-clause-err : goal.returns-in_default-clause-err
returns-in_default-clause-err g c =
    no_client c.args.self.now (sight_of c.args.shape.now) c.args.clients.now c.args.client c.args.path.now (kind_of c.args.kind) c.args.end c.in_default.ensures

pub returns-in_default-names_of-clause-err : goal.returns-in_default-names_of-clause-err
returns-in_default-names_of-clause-err g c =
    no_path c.args.self.now (sight_of c.args.shape.now) c.args.clients.now c.args.client c.args.path.now (kind_of c.args.kind) c.args.end c.in-Some.row.now c.in-Some.ensures c.in_default-names_of.ensures

pub returns-in_err-number-clause-err : goal.returns-in_err-number-clause-err
returns-in_err-number-clause-err g c =
    let p = err_from_is_err_and c.from_residual.result c.from_residual.ensures.1 in
    rw (p.1, p.2)
    (if_weaker (fault_of c.in_err-number.field-0.0)
    (λ f. walked (sight_of c.args.shape.now) c.in-Some.row.now 1 0 (parts_left c.in-Some-names_of.names) ≡ Err f)
    (λ f. granted c.args.self.now (sight_of c.args.shape.now) c.args.clients.now c.args.client c.args.path.now (kind_of c.args.kind) c.args.end ≡ (Err f, c.args.self.now))
    (no_node c.args.self.now (sight_of c.args.shape.now) c.args.clients.now c.args.client c.args.path.now (kind_of c.args.kind) c.args.end
    c.in-Some.row.now c.in-Some.ensures (parts_left c.in-Some-names_of.names) c.in-Some-names_of.ensures)
    c.in_err-number.ensures.err)

pub returns-then-end-self-clause-err : goal.returns-then-end-self-clause-err
returns-then-end-self-clause-err g c =
    in_the_past c.args.self.now (sight_of c.args.shape.now) c.args.clients.now c.args.client c.args.path.now (kind_of c.args.kind) c.args.end
    c.in-Some.row.now c.in-Some.ensures (parts_left c.in-Some-names_of.names) c.in-Some-names_of.ensures c.in_ok-number.number c.in_ok-number.ensures.ok
    (subst (λ (l : Leases). c.args.end ≤ l.moment) c.self.view_is c.if-end-self.true)

pub returns-in-Err-clause-err : goal.returns-in-Err-clause-err
returns-in-Err-clause-err g c =
    let old : Leases = record { rows = table_in c.self.inside.rows; moment = c.self.inside.moment } in
    subst (λ (l : Leases). granted l (sight_of c.args.shape.now) c.args.clients.now c.args.client c.args.path.now (kind_of c.args.kind) c.args.end ≡ (Err (LeaseHeld c.in-Err.holder), l)) c.self.view_is
    (held_by_another old (sight_of c.args.shape.now) c.args.clients.now c.args.client c.args.path.now (kind_of c.args.kind) c.args.end
    c.in-Some.row.now c.in-Some.ensures (parts_left c.in-Some-names_of.names) c.in-Some-names_of.ensures c.in_ok-number.number c.in_ok-number.ensures.ok
    c.if-end-self.false c.in-Err.holder c.in-Err.ensures.held)

pub returns-in_ok-put-in-Ok-clause-ok : goal.returns-in_ok-put-in-Ok-clause-ok
returns-in_ok-put-in-Ok-clause-ok g c =
    let old : Leases = record { rows = table_in c.self.inside.rows; moment = c.self.inside.moment } in
    ap (λ (l : Leases). granted l (sight_of c.args.shape.now) c.args.clients.now c.args.client c.args.path.now (kind_of c.args.kind) c.args.end) (sym c.self.view_is)
    ∙ given old (sight_of c.args.shape.now) c.args.clients.now c.args.client c.args.path.now (kind_of c.args.kind) c.args.end
    c.in-Some.row.now c.in-Some.ensures (parts_left c.in-Some-names_of.names) c.in-Some-names_of.ensures c.in_ok-number.number c.in_ok-number.ensures.ok
    c.if-end-self.false c.in-Ok.ensures.free
    ∙ (λ i. (Ok c.in_ok-number.number, record { rows = sym c.in_ok-put-in-Ok.ensures.table i; moment = c.self.inside.moment }))

pub invariant_of-self-in-Ok : goal.invariant_of-self-in-Ok
invariant_of-self-in-Ok g c =
    let rows = c.self.inside.rows in
    let old : Leases = record { rows = table_in rows; moment = c.self.inside.moment } in
    let lease : Lease = record { kind = kind_of c.args.kind; end = c.args.end } in (
      c.put.ensures.indexed,
      in_force-changed rows c.put.new.self (insert old.rows (c.args.client, c.in_ok-number.number) lease) c.self.inside.moment c.put.result c.self.invariant.1
          (in_force-insert old c.self.invariant.1 c.args.client c.in_ok-number.number (kind_of c.args.kind) c.args.end c.if-end-self.false (none_mapped (λ row. row.0.0) _ c.in-Ok.ensures.free))
          c.put.ensures.table c.put.ensures.err,
    )
