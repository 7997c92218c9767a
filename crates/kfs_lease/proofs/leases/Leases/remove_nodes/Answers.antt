use Rattle.std.proofs.Common.{◌≡◌, Ok, Err, ap, ◌∙◌}
use Rattle.std.specs.Prelude.{OnOk, OnErr}
use Rattle.kfs_model.specs.Lease.{Leases}
use Rattle.kfs_lease.specs.Rows.Rows.{table_in, without_nodes}
use Rattle.kfs_lease.specs.Removed.{without_nodes_in}
use Rattle.kfs_lease.proofs.LeasesInForce.{in_force-changed, in_force-without_nodes}
use Rattle.kfs_lease.proofs.leases.Leases.remove_nodes.Goals as goal

pub returns-clause-ok : goal.returns-clause-ok
returns-clause-ok g c =
    let rows = c.self.inside.rows in
    let new = c.remove_nodes.new.self in
    elim c.remove_nodes.result as (λ r. OnOk r (table_in new ≡ without_nodes (table_in rows) c.args.numbers.now) → OnOk r (record { rows = table_in new; moment = c.self.inside.moment } ≡ without_nodes_in c.args.self.now c.args.numbers.now)) [
      | Ok done ↦ λ ended. (λ i. record { rows = ended i; moment = c.self.inside.moment }) ∙ ap (λ (l : Leases). without_nodes_in l c.args.numbers.now) c.self.view_is
      | Err e ↦ λ none. none
    ] c.remove_nodes.ensures.table

pub returns-clause-err : goal.returns-clause-err
returns-clause-err g c =
    let rows = c.self.inside.rows in
    let new = c.remove_nodes.new.self in
    elim c.remove_nodes.result as (λ r. OnErr r (new ≡ rows) → OnErr r (record { rows = table_in new; moment = c.self.inside.moment } ≡ c.args.self.now)) [
      | Ok done ↦ λ none. none
      | Err e ↦ λ kept. (λ i. record { rows = table_in (kept i); moment = c.self.inside.moment }) ∙ c.self.view_is
    ] c.remove_nodes.ensures.err

pub invariant_of-self : goal.invariant_of-self
invariant_of-self g c =
    let rows = c.self.inside.rows in
    let old : Leases = record { rows = table_in rows; moment = c.self.inside.moment } in (
      c.remove_nodes.ensures.indexed,
      in_force-changed rows c.remove_nodes.new.self (without_nodes old.rows c.args.numbers.now) c.self.inside.moment c.remove_nodes.result
          c.self.invariant.1 (in_force-without_nodes old c.self.invariant.1 c.args.numbers.now) c.remove_nodes.ensures.table c.remove_nodes.ensures.err,
    )
