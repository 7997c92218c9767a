use Rattle.std.proofs.Common.{◌-◌, length}
use Rattle.kfs_shared.proofs.batch.together.+judge_from.Given as goal

abbrev pub decreases-judge_from : goal.decreases-judge_from
decreases-judge_from g l = length l.jobs.now - l.from
