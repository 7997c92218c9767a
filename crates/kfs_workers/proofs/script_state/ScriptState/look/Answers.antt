use Rattle.std.proofs.Common.{◌≡◌, ◌<◌, None, get_or, length, subst, sym}
use Rattle.std.specs.List.{slice_get}
use Rattle.kfs_workers.specs.Script.{DoesLook, ScriptState}
use Rattle.kfs_workers.proofs.ScriptStates.{looked_so, script_state_of}
use Rattle.kfs_workers.proofs.script_state.ScriptState.look.Goals as goal

pub returns-in-Some : goal.returns-in-Some
returns-in-Some g c =
    let inside = c.self.inside in
    let next = script_state_of inside.desk c.take_at.new.list.items c.put_at.new.list.items inside.replies.items in
    subst (λ (s : ScriptState). DoesLook s c.args.worker c.args.ticket (slice_get s.hands c.args.worker) (get_or s.waiting c.args.ticket None) next) c.self.view_is
    (looked_so inside.desk inside.waiting.items inside.hands.items inside.replies.items c.args.worker c.args.ticket c.in-Ok.view c.in-Some.submission c.take_at.result c.take_at.new.list.items c.put_at.new.list.items
    c.in-Ok.ensures (subst (λ (s : ScriptState). (c.args.worker < length s.hands) × (get_or s.hands c.args.worker None ≡ None)) (sym c.self.view_is) (c.is_free.ensures.0 c.if-not-is_free.false)) c.take_at.ensures.taken c.in-Some.is c.take_at.ensures.left c.put_at.ensures)
