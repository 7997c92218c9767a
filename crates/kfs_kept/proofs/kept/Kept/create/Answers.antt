use Rattle.std.proofs.Common.{Err, ap}
use Rattle.kfs_kept.proofs.kept.Kept.create.Goals as goal

pub returns-in-Err-clause-full : goal.returns-in-Err-clause-full
returns-in-Err-clause-full g c = λ is. c.in-Err.ensures.full (ap Err is)

pub returns-in-Err-clause-many : goal.returns-in-Err-clause-many
returns-in-Err-clause-many g c = λ is. c.in-Err.ensures.many (ap Err is)
