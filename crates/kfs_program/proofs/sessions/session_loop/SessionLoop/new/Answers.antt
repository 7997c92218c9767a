use Rattle.kfs_program.proofs.EngineLemmas.SessionLoops.{HasAnswered-new}
use Rattle.kfs_program.proofs.sessions.session_loop.SessionLoop.new.Goals as goal

pub returns : goal.returns
returns g c = HasAnswered-new _ _ c.new.ensures c.new-2.ensures.items
