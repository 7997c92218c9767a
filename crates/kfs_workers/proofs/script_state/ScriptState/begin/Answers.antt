use Rattle.std.proofs.Common.{◌≡◌, None, Some, ap, arith, length, map, replicate, ◌∙◌}
use Rattle.kfs_workers.proofs.ScriptStates.{begun_so, script_state_of}
use Rattle.kfs_workers.proofs.script_state.ScriptState.begin.Goals as goal

pub returns-clause-ok : goal.returns-clause-ok
returns-clause-ok g c =
    let room = c.in-Ok.room in
    let submissions = c.args.submissions.items in
    let counted = c.args.submissions.ok.0 in
    let asked = c.len.ensures in
    let count : c.len.result ≡ length submissions = omega arith in
    ap (λ waiting. script_state_of c.args.desk waiting room.hands.items room.replies.items) c.all_waiting-waiting.ensures
    ∙ ap (λ hands. script_state_of c.args.desk (map Some submissions) hands room.replies.items) c.in-Ok.ensures.hands
    ∙ ap (λ replies. script_state_of c.args.desk (map Some submissions) (replicate 8 None) replies) (c.in-Ok.ensures.replies ∙ ap (λ n. replicate n None) count)
    ∙ begun_so c.args.desk submissions
