-- What the desk answers leaves what the workers hold.
use Rattle.std.proofs.Common.{◌≡◌, ◌∙◌, ◌++◌, ap, subst}
use Rattle.std.specs.Prelude.{OnOk}
use Rattle.std.proofs.lemmas.Result.{on_ok_weaker}
use Rattle.kfs_model.specs.Lease.{row_of}
use Rattle.kfs_model.specs.Machine.{Migrate}
use Rattle.kfs_plan.specs.Judging.{submission_with}
use Rattle.kfs_desk.specs.declared.history.answers.Done.TheVariants.{Moved}
use Rattle.kfs_program.specs.Engine.Bytes.{read_text}
use Rattle.kfs_program.specs.Engine.Session.{After, IsCallAnswered, IsNodeShown, IsPlanAnswered, IsReplied, IsSubmissionAnswered, docket_line, names_line}
use Rattle.kfs_program_text.specs.Parts.{line_of}
use Rattle.kfs_program.specs.Images.Saving.{save_text}
use Rattle.kfs_program.proofs.EngineLemmas.Held.{act_served, replied_as, said_with_hands, with_hands}
use Rattle.kfs_program.proofs.EngineLemmas.PlanAnswers.{refused_as}
use Rattle.kfs_program.proofs.sessions.session.answer_due.Goals as goal

pub returns-in-Act-clause-ok : goal.returns-in-Act-clause-ok
returns-in-Act-clause-ok g c =
    let desk = c.args.desk.now in
    let hands = c.args.hands.now in
    on_ok_weaker c.make_call.result (replied_as desk hands c.args.command _ c.args.reply.now.items c.make_call.new.reply.items (After c.make_call.new.desk hands) c.in-Act.is)
    (act_served c.make_call.result desk hands c.in-Act.act c.args.reply.now.items c.make_call.new.reply.items c.make_call.new.desk c.make_call.ensures.ok)

pub returns-in-Submit-clause-ok : goal.returns-in-Submit-clause-ok
returns-in-Submit-clause-ok g c =
    let desk = c.args.desk.now in
    let hands = c.args.hands.now in
    on_ok_weaker c.hand_in.result (replied_as desk hands c.args.command _ c.args.reply.now.items c.hand_in.new.reply.items (After c.hand_in.new.desk hands) c.in-Submit.is)
    (with_hands c.hand_in.result hands (IsSubmissionAnswered desk (submission_with c.in-Submit.client c.in-Submit.log.now c.in-Submit.plan.now)) c.args.reply.now.items c.hand_in.new.reply.items c.hand_in.new.desk c.hand_in.ensures.ok)

pub returns-in-Node-clause-ok : goal.returns-in-Node-clause-ok
returns-in-Node-clause-ok g c =
    let desk = c.args.desk.now in
    let hands = c.args.hands.now in
    on_ok_weaker c.show_node.result (replied_as desk hands c.args.command _ c.args.reply.now.items c.show_node.new.reply.items (After desk hands) c.in-Node.is)
    (with_hands c.show_node.result hands (IsNodeShown desk c.in-Node.number) c.args.reply.now.items c.show_node.new.reply.items desk c.show_node.ensures.ok)

pub returns-in-List-clause-ok : goal.returns-in-List-clause-ok
returns-in-List-clause-ok g c =
    let desk = c.args.desk.now in
    let hands = c.args.hands.now in
    on_ok_weaker c.show_names.result
    (λ said. replied_as desk hands c.args.command _ c.args.reply.now.items c.show_names.new.reply.items (After desk hands) c.in-List.is
    (said_with_hands hands (names_line desk c.in-List.number) c.args.reply.now.items c.show_names.new.reply.items desk said))
    c.show_names.ensures.ok

pub returns-in_ok-bytes_line-in-Read-clause-ok : goal.returns-in_ok-bytes_line-in-Read-clause-ok
returns-in_ok-bytes_line-in-Read-clause-ok g c =
    let desk = c.args.desk.now in
    let hands = c.args.hands.now in
    let before = c.args.reply.now.items in
    let read = c.in-Read in
    let said : c.bytes_line.new.out.items ≡ before ++ line_of (read_text desk.state.tree read.number read.start read.count) =
    c.in_ok-bytes_line-in-Read.ensures ∙ ap (λ t. before ++ line_of (read_text t read.number read.start read.count)) c.image.ensures.shown.tree in
    replied_as desk hands c.args.command _ before c.bytes_line.new.out.items (After desk hands) read.is
    (said_with_hands hands (read_text desk.state.tree read.number read.start read.count) before c.bytes_line.new.out.items desk said)

pub returns-in-Docket-clause-ok : goal.returns-in-Docket-clause-ok
returns-in-Docket-clause-ok g c =
    let desk = c.args.desk.now in
    let hands = c.args.hands.now in
    replied_as desk hands c.args.command _ c.args.reply.now.items c.show_docket.new.reply.items (After desk hands) c.in-Docket.is
    (said_with_hands hands (docket_line desk) c.args.reply.now.items c.show_docket.new.reply.items desk c.show_docket.ensures)

pub returns-in-Save-clause-ok : goal.returns-in-Save-clause-ok
returns-in-Save-clause-ok g c =
    let desk = c.args.desk.now in
    let hands = c.args.hands.now in
    on_ok_weaker c.show_image.result
    (λ said. replied_as desk hands c.args.command _ c.args.reply.now.items c.show_image.new.reply.items (After desk hands) c.in-Save.is
    (said_with_hands hands (save_text desk.state.sizes desk.state.tree desk.state.placement) c.args.reply.now.items c.show_image.new.reply.items desk said))
    c.show_image.ensures.ok

pub returns-in-Move-clause-ok : goal.returns-in-Move-clause-ok
returns-in-Move-clause-ok g c =
    let desk = c.args.desk.now in
    let hands = c.args.hands.now in
    let before = c.args.reply.now.items in
    let after = c.move_blocks.new.reply.items in
    let next = c.move_blocks.new.desk in
    let moved = subst (λ moves. OnOk c.move_blocks.result (IsReplied (IsCallAnswered desk (Migrate moves) Moved) before after next)) c.as_slice.ensures.value c.move_blocks.ensures.ok in
    on_ok_weaker c.move_blocks.result (replied_as desk hands c.args.command _ before after (After next hands) c.in-Move.is)
    (with_hands c.move_blocks.result hands (IsCallAnswered desk (Migrate c.in-Move.moves.items) Moved) before after next moved)

pub returns-in-Plan-clause-ok : goal.returns-in-Plan-clause-ok
returns-in-Plan-clause-ok g c =
    let desk = c.args.desk.now in
    let hands = c.args.hands.now in
    let before = c.args.reply.now.items in
    let after = c.answer_plan.new.reply.items in
    let row = row_of desk.state.clients c.in-Plan.client in
    let answered = subst (λ log. OnOk c.answer_plan.result (IsReplied (IsPlanAnswered desk row log) before after desk)) c.as_slice-in-Plan.ensures.value c.answer_plan.ensures.ok in
    on_ok_weaker c.answer_plan.result (replied_as desk hands c.args.command _ before after (After desk hands) c.in-Plan.is)
    (with_hands c.answer_plan.result hands (IsPlanAnswered desk row c.in-Plan.log.items) before after desk answered)

pub returns-in-Plan-clause-bad : goal.returns-in-Plan-clause-bad
returns-in-Plan-clause-bad g c out =
    let desk = c.args.desk.now in
    let hands = c.args.hands.now in
    refused_as desk hands c.args.command c.in-Plan.client c.in-Plan.log c.in-Plan.is (c.answer_plan.ensures.bad out)
