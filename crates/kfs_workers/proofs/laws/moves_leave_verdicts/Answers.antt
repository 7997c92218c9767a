use Rattle.kfs_workers.proofs.BetweenLandings.{steps_leave_verdicts}
use Rattle.kfs_workers.proofs.laws.moves_leave_verdicts.Goals as goal

pub returns : goal.returns
returns c = steps_leave_verdicts
