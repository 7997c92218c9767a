use Rattle.kfs_fsck.proofs.LeastOfParts.{folded}
use Rattle.kfs_fsck.proofs.parts.least_of.Goals as goal

pub returns : goal.returns
returns g c = let done = c.reduce.ensures in (done.0, done.1, folded done.0 c.reduce.result done.2)
