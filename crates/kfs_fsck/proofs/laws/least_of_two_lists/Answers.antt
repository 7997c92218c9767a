use Rattle.kfs_fsck.proofs.LeastOfParts.{least_of_both}
use Rattle.kfs_fsck.proofs.laws.least_of_two_lists.Goals as goal

pub returns : goal.returns
returns c = least_of_both
