-- The call is a step of the machine, which leaves the tree, and its row is the docket's next.
use Rattle.std.proofs.Common.{◌<◌, length, refl, sym, ap, subst, ◌∙◌, arith}
use Rattle.kfs_model.specs.Judgement.{State}
use Rattle.kfs_model.specs.Machine.{Migrate, Row}
use Rattle.kfs_model.specs.Means.{DiffersInPlacement}
use Rattle.kfs_desk.specs.declared.history.answers.Done.TheVariants.{Moved}
use Rattle.kfs_desk.specs.Machine.{Desk, Parts, IsActed, IsCallStep, SeeTheSame, shown, state_at, state_of}
use Rattle.kfs_desk.proofs.Calls.{acted_at, acted_desk, between, moves_are_step, placement_alone, seen_same, unmoved}
use Rattle.kfs_desk.proofs.desk.Desk.migrate.Goals as goal

pub add_moves-requires-clause-step : goal.add_moves-requires-clause-step
add_moves-requires-clause-step g c =
    let inside = c.self.inside in
    let desk : Parts = record { image = inside.image; clients = inside.clients.value.items; leases = inside.leases.value; opening = inside.opening; docket = inside.docket; limit = inside.limit } in
    let moves = c.args.moves.now in
    let answer = c.in_ok-answer.answer in
    let step = moves_are_step desk moves c.make_moves.new.image answer c.in_ok-answer.ensures.ok in
    between c.of-before.ensures.state c.of-after.ensures.state (λ s t. (row : Row) × IsCallStep s (Migrate moves) Moved answer row t) step

pub invariant_of-self-2 : goal.invariant_of-self-2
invariant_of-self-2 g c =
    let inside = c.self.inside in
    let desk : Parts = record { image = inside.image; clients = inside.clients.value.items; leases = inside.leases.value; opening = inside.opening; docket = inside.docket; limit = inside.limit } in
    let new : Parts = record desk { image = c.make_moves.new.image; docket = c.add_moves.new.docket } in
    let moves = c.args.moves.now in
    let answer = c.in_ok-answer.answer in
    let (row, row_is, added) = c.add_moves.ensures in
    let step : IsCallStep (state_of desk) (Migrate moves) Moved answer row (state_of new) = between (sym c.of-before.ensures.state) (sym c.of-after.ensures.state) (λ s t. IsCallStep s (Migrate moves) Moved answer row t) row_is in
    let is_docket = ap (λ (d : Desk). length d.docket) c.self.view_is in
    let is_limit = ap (λ (d : Desk). d.limit) c.self.view_is in
    let (last, below) = c.in_ok-position.ensures.row in
    let room : length inside.docket < inside.limit = omega arith in
    acted_desk (Migrate moves) Moved answer desk new row step refl added refl c.self.invariant c.of-after.ensures.shown room

pub returns-clause-called : goal.returns-clause-called
returns-clause-called g c =
    let inside = c.self.inside in
    let desk : Parts = record { image = inside.image; clients = inside.clients.value.items; leases = inside.leases.value; opening = inside.opening; docket = inside.docket; limit = inside.limit } in
    let new : Parts = record desk { image = c.make_moves.new.image; docket = c.add_moves.new.docket } in
    let moves = c.args.moves.now in
    let answer = c.in_ok-answer.answer in
    let (row, row_is, added) = c.add_moves.ensures in
    let step : IsCallStep (state_of desk) (Migrate moves) Moved answer row (state_of new) = between (sym c.of-before.ensures.state) (sym c.of-after.ensures.state) (λ s t. IsCallStep s (Migrate moves) Moved answer row t) row_is in
    let is_docket = ap (λ (d : Desk). length d.docket) c.self.view_is in
    let is_limit = ap (λ (d : Desk). d.limit) c.self.view_is in
    let (last, below) = c.in_ok-position.ensures.row in
    let room : length inside.docket < inside.limit = omega arith in
    let acted : IsActed (shown desk) (Migrate moves) Moved (record { position = c.in_ok-position.position; answer = answer }) (shown new) = acted_at (Migrate moves) Moved answer desk new row step refl added refl c.in_ok-position.position (last ∙ sym is_docket) in
    record {
      full = (λ refused. cc, λ at_limit. let never : ⊥ = omega (arith, at_limit, last, below) in absurd never);
      done = subst (λ (d : Desk). IsActed d (Migrate moves) Moved (record { position = c.in_ok-position.position; answer = answer }) (shown new)) c.self.view_is acted;
      err = tt;
      legal = (acted_desk (Migrate moves) Moved answer desk new row step refl added refl c.self.invariant c.of-after.ensures.shown room).legal;
    }

pub returns-clause-rest : goal.returns-clause-rest
returns-clause-rest g c =
    let inside = c.self.inside in
    let desk : Parts = record { image = inside.image; clients = inside.clients.value.items; leases = inside.leases.value; opening = inside.opening; docket = inside.docket; limit = inside.limit } in
    let moves = c.args.moves.now in
    let new = c.make_moves.new.image in
    subst (λ (d : Desk). DiffersInPlacement d.state (state_at new desk.clients desk.leases)) c.self.view_is (placement_alone desk moves new c.in_ok-answer.answer c.in_ok-answer.ensures.ok)

pub returns-clause-tree : goal.returns-clause-tree
returns-clause-tree g c =
    let inside = c.self.inside in
    let desk : Parts = record { image = inside.image; clients = inside.clients.value.items; leases = inside.leases.value; opening = inside.opening; docket = inside.docket; limit = inside.limit } in
    let moves = c.args.moves.now in
    let (placement, is) = placement_alone desk moves c.make_moves.new.image c.in_ok-answer.answer c.in_ok-answer.ensures.ok in
    ap (λ (s : State). s.tree) is ∙ ap (λ (d : Desk). d.state.tree) c.self.view_is

pub returns-clause-seen : goal.returns-clause-seen
returns-clause-seen g c =
    let inside = c.self.inside in
    let desk : Parts = record { image = inside.image; clients = inside.clients.value.items; leases = inside.leases.value; opening = inside.opening; docket = inside.docket; limit = inside.limit } in
    let moves = c.args.moves.now in
    let new = c.make_moves.new.image in
    let rest = placement_alone desk moves new c.in_ok-answer.answer c.in_ok-answer.ensures.ok in
    subst (λ (d : Desk). SeeTheSame d.state (state_at new desk.clients desk.leases)) c.self.view_is (seen_same (state_of desk) (state_at new desk.clients desk.leases) rest)

pub returns-in_err-position-clause-rest : goal.returns-in_err-position-clause-rest
returns-in_err-position-clause-rest g c = unmoved c.args.self.now.state c.args.self.now.state refl

pub returns-in_err-answer-clause-rest : goal.returns-in_err-answer-clause-rest
returns-in_err-answer-clause-rest g c =
    let inside = c.self.inside in
    let same = ap (λ image. state_at image inside.clients.value.items inside.leases.value) c.in_err-answer.ensures.err ∙ ap (λ (d : Desk). d.state) c.self.view_is in
    unmoved c.args.self.now.state (state_at c.make_moves.new.image inside.clients.value.items inside.leases.value) same
