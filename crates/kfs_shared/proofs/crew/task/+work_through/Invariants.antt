use Rattle.std.proofs.Common.{length}
use Rattle.kfs_shared.proofs.crew.task.+work_through.Given as goal

abbrev pub decreases-work_through : goal.decreases-work_through
decreases-work_through g l = length l.tasks.now
