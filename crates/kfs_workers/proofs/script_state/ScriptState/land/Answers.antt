-- The verdict is landed, or its submission goes back; what is not judged and an empty hand stay.
use Rattle.std.proofs.Common.{None, Some, ap, get_or, subst, ◌∙◌}
use Rattle.kfs_workers.specs.Script.{DoesLand, ScriptState}
use Rattle.kfs_workers.proofs.ScriptStates.{landed_so, not_landed, not_landed_yet, nothing_landed, script_state_of}
use Rattle.kfs_workers.proofs.script_state.ScriptState.land.Goals as goal

pub returns-in-Ok : goal.returns-in-Ok
returns-in-Ok g c =
    let inside = c.self.inside in
    let held = c.in-Some-Decided.is ∙ ap Some c.in-Some-Decided.field-0-is in
    let landed = c.in-Ok.ensures in
    subst (λ (s : ScriptState). DoesLand s c.args.worker (get_or s.hands c.args.worker None) (script_state_of c.land.new.self inside.waiting.items c.take_at.new.list.items c.put_at.new.list.items)) c.self.view_is
    (landed_so inside.desk inside.waiting.items inside.hands.items inside.replies.items c.args.worker c.take_at.result c.take_at.ensures.taken c.in-Some-Decided.ticket c.in-Some-Decided.judged held
    c.land.new.self c.in-Ok.reply c.take_at.new.list.items c.put_at.new.list.items (λ full. landed.full.1 full) landed.rejudged landed.answered c.take_at.ensures.left c.put_at.ensures)

pub returns-in-Err : goal.returns-in-Err
returns-in-Err g c =
    let inside = c.self.inside in
    let held = c.in-Some-Decided.is ∙ ap Some c.in-Some-Decided.field-0-is in
    let back = c.in-Err.ensures.back in
    subst (λ (s : ScriptState). DoesLand s c.args.worker (get_or s.hands c.args.worker None) (script_state_of c.land.new.self c.put_at-in-Err.new.list.items c.take_at.new.list.items inside.replies.items)) c.self.view_is
    (not_landed inside.desk inside.waiting.items inside.hands.items inside.replies.items c.args.worker c.take_at.result c.take_at.ensures.taken c.in-Some-Decided.ticket c.in-Some-Decided.judged held
    c.land.new.self c.in-Err.back.submission c.take_at.new.list.items c.put_at-in-Err.new.list.items back.1 back.0 c.take_at.ensures.left c.put_at-in-Err.ensures)

pub returns-in-Some-Taken : goal.returns-in-Some-Taken
returns-in-Some-Taken g c =
    let inside = c.self.inside in
    let held = c.in-Some-Taken.is ∙ ap Some c.in-Some-Taken.field-0-is in
    subst (λ (s : ScriptState). DoesLand s c.args.worker (get_or s.hands c.args.worker None) (script_state_of inside.desk inside.waiting.items c.put_at-in-Some-Taken.new.list.items inside.replies.items)) c.self.view_is
    (not_landed_yet inside.desk inside.waiting.items inside.hands.items inside.replies.items c.args.worker c.take_at.result c.take_at.ensures.taken c.in-Some-Taken.ticket c.in-Some-Taken.submission c.in-Some-Taken.view held
    c.take_at.new.list.items c.put_at-in-Some-Taken.new.list.items c.take_at.ensures.left c.put_at-in-Some-Taken.ensures)

pub returns-in-None : goal.returns-in-None
returns-in-None g c =
    let inside = c.self.inside in
    subst (λ (s : ScriptState). DoesLand s c.args.worker (get_or s.hands c.args.worker None) (script_state_of inside.desk inside.waiting.items c.take_at.new.list.items inside.replies.items)) c.self.view_is
    (nothing_landed inside.desk inside.waiting.items inside.hands.items inside.replies.items c.args.worker c.take_at.result c.take_at.ensures.taken c.take_at.new.list.items c.in-None.is c.take_at.ensures.left)
