-- Where memory runs out, the verdict is given up, before or now.
use Rattle.std.proofs.Common.{Err, ap, ◌∙◌}
use Rattle.kfs_program.specs.Engine.Views.{stage_of}
use Rattle.kfs_program.proofs.EngineLemmas.Held.{without_memory}
use Rattle.kfs_program.proofs.sessions.session_loop.reply_to.Goals as goal

pub returns-in-Err-OutOfMemory : goal.returns-in-Err-OutOfMemory
returns-in-Err-OutOfMemory g c =
    let out = c.in-Err-OutOfMemory.is ∙ ap Err c.in-Err-OutOfMemory.field-0-is in
    without_memory (stage_of c.args.session.now) (stage_of c.reply_in_room.new.session) (stage_of c.give_up.new.self) c.args.line.now (c.reply_in_room.ensures.memory out) c.give_up.ensures
