use Rattle.std.proofs.Common.{◌≡◌, Bool, false, Ok, sym, ap, subst, ◌∙◌, arith}
use Rattle.std.specs.Prelude.{nat_lt, if◌then◌else◌}
use Rattle.std.proofs.lemmas.Bool.Decides.{nat_tests}
use Rattle.kfs_model.specs.Lease.{Leases, LeaseTable, LeaseOutcome, Backwards, live_at, refused, ticked}
use Rattle.kfs_lease.specs.InForce.{AreInForce}
use Rattle.kfs_lease.specs.Rows.Rows.{table_in}
use Rattle.kfs_lease.proofs.LeasesInForce.{in_force-live_at}
use Rattle.kfs_lease.proofs.leases.Leases.tick.Goals as goal

pub returns-clause-ok : goal.returns-clause-ok
unfolding ticked
returns-clause-ok g c =
    let old : Leases = record { rows = table_in c.self.inside.rows; moment = c.self.inside.moment } in
    let later : nat_lt c.args.moment c.self.inside.moment ≡ false = grind (arith, nat_tests) in
    let after : LeaseOutcome = (Ok c.args.moment, record { rows = live_at c.args.moment old.rows; moment = c.args.moment }) in
    ap (λ (l : Leases). ticked l c.args.moment) (sym c.self.view_is)
    ∙ ap (λ (b : Bool). if b then refused Backwards old else after) later
    ∙ (λ i. (Ok c.args.moment, record { rows = sym c.in_ok-end_until.ensures.table i; moment = c.args.moment }))

pub invariant_of-self-2 : goal.invariant_of-self-2
invariant_of-self-2 g c =
    let old : Leases = record { rows = table_in c.self.inside.rows; moment = c.self.inside.moment } in (
      c.in_ok-end_until.ensures.indexed,
      subst (λ (t : LeaseTable). AreInForce (record { rows = t; moment = c.args.moment })) (sym c.in_ok-end_until.ensures.table)
          (in_force-live_at old c.self.invariant.1 c.args.moment (omega (arith, c.if-moment-self.false))),
    )
