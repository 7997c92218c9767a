use Rattle.std.proofs.Common.{◌+◌, ◌*◌, length}
use Rattle.kfs_shared.proofs.crew.team.+halves.Given as goal

abbrev pub decreases-work_together : goal.decreases-work_together
decreases-work_together g l = 4 * length l.all.now + 1

abbrev pub decreases-both_halves : goal.decreases-both_halves
decreases-both_halves g l = 4 * (length l.left.now + length l.right.now)

abbrev pub decreases-both_halves-lefts : goal.decreases-both_halves-lefts
decreases-both_halves-lefts g l = 4 * length l.left.now + 2

abbrev pub decreases-both_halves-rights : goal.decreases-both_halves-rights
decreases-both_halves-rights g l = 4 * length l.right.now + 2
