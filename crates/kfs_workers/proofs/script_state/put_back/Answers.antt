use Rattle.kfs_workers.proofs.ScriptStates.{returned_decided, returned_taken}
use Rattle.kfs_workers.proofs.script_state.put_back.Goals as goal

pub returns-in-Some-Taken : goal.returns-in-Some-Taken
returns-in-Some-Taken g c =
    let it = c.in-Some-Taken in
    returned_taken c.args.waiting.now.items c.put_at.new.list.items c.args.hand it.field-0 it.ticket it.submission it.field-0-2 it.is it.field-0-is c.put_at.ensures

pub returns-in-Some-Decided : goal.returns-in-Some-Decided
returns-in-Some-Decided g c =
    let it = c.in-Some-Decided in
    returned_decided c.args.waiting.now.items c.put_at-in-Some-Decided.new.list.items c.args.hand it.field-0 it.ticket it.judged _ it.is it.field-0-is c.into_parts-submission.ensures.submission c.put_at-in-Some-Decided.ensures
