-- What the worker took is judged, or goes back; a verdict and an empty hand stay.
use Rattle.std.proofs.Common.{None, Some, ap, get_or, subst, ◌∙◌}
use Rattle.kfs_workers.specs.Script.{DoesJudge, ScriptState}
use Rattle.kfs_workers.proofs.ScriptStates.{judged_already, judged_so, not_judged, nothing_judged, script_state_of}
use Rattle.kfs_workers.proofs.script_state.ScriptState.judge.Goals as goal

pub returns-in-Ok : goal.returns-in-Ok
returns-in-Ok g c =
    let inside = c.self.inside in
    let held = c.in-Some-Taken.is ∙ ap Some c.in-Some-Taken.field-0-is in
    subst (λ (s : ScriptState). DoesJudge s c.args.worker (get_or s.hands c.args.worker None) (script_state_of inside.desk inside.waiting.items c.put_at.new.list.items inside.replies.items)) c.self.view_is
    (judged_so inside.desk inside.waiting.items inside.hands.items inside.replies.items c.args.worker c.take_at.result c.take_at.ensures.taken c.in-Some-Taken.ticket c.in-Some-Taken.submission c.in-Some-Taken.view held
    c.in-Ok.judged c.take_at.new.list.items c.put_at.new.list.items c.in-Ok.ensures.verdict c.take_at.ensures.left c.put_at.ensures)

pub returns-in-Some-Taken : goal.returns-in-Some-Taken
returns-in-Some-Taken g c =
    let inside = c.self.inside in
    let held = c.in-Some-Taken.is ∙ ap Some c.in-Some-Taken.field-0-is in
    subst (λ (s : ScriptState). DoesJudge s c.args.worker (get_or s.hands c.args.worker None) (script_state_of inside.desk c.put_at-in-Err.new.list.items c.take_at.new.list.items inside.replies.items)) c.self.view_is
    (not_judged inside.desk inside.waiting.items inside.hands.items inside.replies.items c.args.worker c.take_at.result c.take_at.ensures.taken c.in-Some-Taken.ticket c.in-Some-Taken.submission c.in-Some-Taken.view held
    c.in-Err.back.submission c.take_at.new.list.items c.put_at-in-Err.new.list.items c.in-Err.ensures.back.0 c.take_at.ensures.left c.put_at-in-Err.ensures)

pub returns-in-Some-Decided : goal.returns-in-Some-Decided
returns-in-Some-Decided g c =
    let inside = c.self.inside in
    let held = c.in-Some-Decided.is ∙ ap Some c.in-Some-Decided.field-0-is in
    subst (λ (s : ScriptState). DoesJudge s c.args.worker (get_or s.hands c.args.worker None) (script_state_of inside.desk inside.waiting.items c.put_at-in-Some-Decided.new.list.items inside.replies.items)) c.self.view_is
    (judged_already inside.desk inside.waiting.items inside.hands.items inside.replies.items c.args.worker c.take_at.result c.take_at.ensures.taken c.in-Some-Decided.ticket c.in-Some-Decided.judged held
    c.take_at.new.list.items c.put_at-in-Some-Decided.new.list.items c.take_at.ensures.left c.put_at-in-Some-Decided.ensures)

pub returns : goal.returns
returns g c =
    let inside = c.self.inside in
    subst (λ (s : ScriptState). DoesJudge s c.args.worker (get_or s.hands c.args.worker None) (script_state_of inside.desk inside.waiting.items c.take_at.new.list.items inside.replies.items)) c.self.view_is
    (nothing_judged inside.desk inside.waiting.items inside.hands.items inside.replies.items c.args.worker c.take_at.result c.take_at.ensures.taken c.take_at.new.list.items c.in-None.is c.take_at.ensures.left)
