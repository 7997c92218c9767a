-- What is found now lands as the machine's step, whose row is the docket's next.
use Rattle.std.proofs.Common.{ap, ◌<◌, length, sym, subst, refl, arith}
use Rattle.kfs_model.specs.Judgement.{State, Submission}
use Rattle.kfs_model.specs.Machine.{Row}
use Rattle.kfs_plan.specs.Judging.{IsVerdict}
use Rattle.kfs_desk.specs.Found.{found_in}
use Rattle.kfs_desk.specs.HandedIn.{handed_in}
use Rattle.kfs_desk.specs.Machine.{Desk, IsAnswered, IsDesk, IsStep, Parts, shown, state_at, state_of}
use Rattle.kfs_desk.proofs.Answered.{IsAnswer, answered, answered_at, answered_desk, can_land, told_of}
use Rattle.kfs_desk.proofs.desk.Desk.answer.Given as given
use Rattle.kfs_desk.proofs.desk.Desk.answer.Goals as goal

pub land-requires : goal.land-requires
land-requires g c =
    let inside = c.self.inside in
    let desk : Parts = record { image = inside.image; clients = inside.clients.value.items; leases = inside.leases.value; opening = inside.opening; docket = inside.docket; limit = inside.limit } in
    let submission = handed_in c.args.submitted.now in
    let state = ap (λ (d : Desk). d.state) c.self.view_is in
    let verdict = subst (λ (s : State). IsVerdict s submission (found_in c.args.found)) (sym state) c.requires.verdict in
    can_land desk c.self.invariant c.shape-shape.ensures.lawful submission c.args.rejudged (found_in c.args.found) verdict

pub add_answer-requires-clause-step : goal.add_answer-requires-clause-step
add_answer-requires-clause-step g c =
    let inside = c.self.inside in
    let desk : Parts = record { image = inside.image; clients = inside.clients.value.items; leases = inside.leases.value; opening = inside.opening; docket = inside.docket; limit = inside.limit } in
    let submission = handed_in c.args.submitted.now in
    let state = ap (λ (d : Desk). d.state) c.self.view_is in
    let verdict = subst (λ (s : State). IsVerdict s submission (found_in c.args.found)) (sym state) c.requires.verdict in
    let reply = c.in_ok-reply.reply in
    let is : IsAnswer (state_of desk) submission c.args.rejudged c.len-position.result reply (state_at c.land.new.image desk.clients c.land.new.leases.value) =
    answered desk c.self.invariant c.shape-shape.ensures.lawful submission c.args.rejudged c.len-position.result (found_in c.args.found) reply c.land.new.image c.land.new.leases.value verdict c.in_ok-reply.ensures.answer c.in_ok-reply.ensures.leases in
    told_of c.of-before.ensures.state refl c.of-after.ensures.state (λ s u t. (row : Row) × IsStep s u reply row t) is.step

-- the desk before and after, the row of the step between them, and the answer
module _ (g : given.Over) (c : goal.After-drop-before-inside-4 g) where
  abbrev before : Parts
  before = let inside = c.self.inside in record { image = inside.image; clients = inside.clients.value.items; leases = inside.leases.value; opening = inside.opening; docket = inside.docket; limit = inside.limit }

  abbrev after : Parts
  after = record before { image = c.land.new.image; leases = c.land.new.leases.value; docket = c.add_answer.new.docket }

  abbrev row : Row
  row = c.add_answer.ensures.0

  abbrev submission : Submission
  submission = handed_in c.args.submitted.now

  step : IsStep (state_of before) submission c.in_ok-reply.reply row (state_of after)
  step = told_of (sym c.of-before.ensures.state) refl (sym c.of-after.ensures.state) (λ s u t. IsStep s u c.in_ok-reply.reply row t) c.add_answer.ensures.1

  is_answer : IsAnswer (state_of before) submission c.args.rejudged c.len-position.result c.in_ok-reply.reply (state_of after)
  is_answer =
      let state = ap (λ (d : Desk). d.state) c.self.view_is in
      let verdict = subst (λ (s : State). IsVerdict s submission (found_in c.args.found)) (sym state) c.requires.verdict in
      answered before c.self.invariant c.shape-shape.ensures.lawful submission c.args.rejudged c.len-position.result (found_in c.args.found) c.in_ok-reply.reply c.land.new.image c.land.new.leases.value verdict c.in_ok-reply.ensures.answer c.in_ok-reply.ensures.leases

  is_answered : IsAnswered (shown before) submission c.args.rejudged c.in_ok-reply.reply (shown after)
  is_answered = answered_at before after c.self.invariant submission c.in_ok-reply.reply row step refl c.add_answer.ensures.2 refl c.args.rejudged c.len-position.result c.len-position.ensures is_answer

  is_desk : IsDesk after
  is_desk =
      let inside = c.self.inside in
      let below = c.requires.room in
      let is_docket = ap (λ (d : Desk). length d.docket) c.self.view_is in
      let is_limit = ap (λ (d : Desk). d.limit) c.self.view_is in
      let room : length inside.docket < inside.limit = omega arith in
      answered_desk before after c.self.invariant submission c.in_ok-reply.reply row step refl c.add_answer.ensures.2 refl c.of-after.ensures.shown room

pub invariant_of-self-2 : goal.invariant_of-self-2
invariant_of-self-2 g c = is_desk g c

pub returns-clause-legal : goal.returns-clause-legal
returns-clause-legal g c = (is_desk g c).legal

pub returns-clause-answered : goal.returns-clause-answered
returns-clause-answered g c = subst (λ (d : Desk). IsAnswered d (handed_in c.args.submitted.now) c.args.rejudged c.in_ok-reply.reply (shown (after g c))) c.self.view_is (is_answered g c)
