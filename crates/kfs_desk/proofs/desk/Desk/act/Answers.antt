-- The call is a step of the machine, which leaves the tree, and its row is the docket's next.
use Rattle.std.proofs.Common.{◌<◌, length, refl, sym, ap, subst, ◌∙◌, arith}
use Rattle.kfs_mode.specs.Clients.{ClientsAreDistinct}
use Rattle.kfs_model.specs.Machine.{Row}
use Rattle.kfs_desk.specs.Machine.{Desk, Parts, IsActed, IsCallStep, call_of, done_by, shown, state_of}
use Rattle.kfs_desk.proofs.Calls.{act_is_step, acted_at, acted_desk, between}
use Rattle.kfs_desk.proofs.desk.Desk.act.Goals as goal

pub change-requires : goal.change-requires
change-requires g c =
    let clients = c.deref-3.ensures.value ∙ ap (λ v. v.items) c.deref-2.ensures in
    record { distinct = subst ClientsAreDistinct (sym clients) c.self.invariant.in_order.distinct }

pub add_act-requires-clause-step : goal.add_act-requires-clause-step
add_act-requires-clause-step g c =
    let inside = c.self.inside in
    let desk : Parts = record { image = inside.image; clients = inside.clients.value.items; leases = inside.leases.value; opening = inside.opening; docket = inside.docket; limit = inside.limit } in
    let act = c.args.act in
    let answer = c.in_ok-answer.answer in
    let contents = c.deref.ensures ∙ c.shape-shape.ensures.shape in
    let clients = c.deref-3.ensures.value ∙ ap (λ v. v.items) c.deref-2.ensures in
    let step = act_is_step act answer c.change.new.leases.value desk c.shape-shape.ensures.lawful c.deref.result.now c.deref-3.result.now contents clients c.in_ok-answer.ensures.ok in
    between c.of-before.ensures.state c.of-after.ensures.state (λ s t. (row : Row) × IsCallStep s (call_of act) (done_by act) answer row t) step

pub invariant_of-self-2 : goal.invariant_of-self-2
invariant_of-self-2 g c =
    let inside = c.self.inside in
    let desk : Parts = record { image = inside.image; clients = inside.clients.value.items; leases = inside.leases.value; opening = inside.opening; docket = inside.docket; limit = inside.limit } in
    let new : Parts = record desk { leases = c.change.new.leases.value; docket = c.add_act.new.docket } in
    let act = c.args.act in
    let answer = c.in_ok-answer.answer in
    let (row, row_is, added) = c.add_act.ensures in
    let step : IsCallStep (state_of desk) (call_of act) (done_by act) answer row (state_of new) = between (sym c.of-before.ensures.state) (sym c.of-after.ensures.state) (λ s t. IsCallStep s (call_of act) (done_by act) answer row t) row_is in
    let is_docket = ap (λ (d : Desk). length d.docket) c.self.view_is in
    let is_limit = ap (λ (d : Desk). d.limit) c.self.view_is in
    let (last, below) = c.in_ok-position.ensures.row in
    let room : length inside.docket < inside.limit = omega arith in
    acted_desk (call_of act) (done_by act) answer desk new row step refl added refl c.self.invariant c.of-after.ensures.shown room

pub returns : goal.returns
returns g c =
    let inside = c.self.inside in
    let desk : Parts = record { image = inside.image; clients = inside.clients.value.items; leases = inside.leases.value; opening = inside.opening; docket = inside.docket; limit = inside.limit } in
    let new : Parts = record desk { leases = c.change.new.leases.value; docket = c.add_act.new.docket } in
    let act = c.args.act in
    let answer = c.in_ok-answer.answer in
    let (row, row_is, added) = c.add_act.ensures in
    let step : IsCallStep (state_of desk) (call_of act) (done_by act) answer row (state_of new) = between (sym c.of-before.ensures.state) (sym c.of-after.ensures.state) (λ s t. IsCallStep s (call_of act) (done_by act) answer row t) row_is in
    let is_docket = ap (λ (d : Desk). length d.docket) c.self.view_is in
    let is_limit = ap (λ (d : Desk). d.limit) c.self.view_is in
    let (last, below) = c.in_ok-position.ensures.row in
    let room : length inside.docket < inside.limit = omega arith in
    let acted : IsActed (shown desk) (call_of act) (done_by act) (record { position = c.in_ok-position.position; answer = answer }) (shown new) = acted_at (call_of act) (done_by act) answer desk new row step refl added refl c.in_ok-position.position (last ∙ sym is_docket) in
    record {
      full = (λ refused. cc, λ at_limit. let never : ⊥ = omega (arith, at_limit, last, below) in absurd never);
      done = subst (λ (d : Desk). IsActed d (call_of act) (done_by act) (record { position = c.in_ok-position.position; answer = answer }) (shown new)) c.self.view_is acted;
      err = tt;
      legal = (acted_desk (call_of act) (done_by act) answer desk new row step refl added refl c.self.invariant c.of-after.ensures.shown room).legal;
    }
