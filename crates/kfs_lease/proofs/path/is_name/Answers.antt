use Rattle.kfs_lease.proofs.PathParts.{same_test}
use Rattle.kfs_lease.proofs.path.is_name.Goals as goal

pub returns : goal.returns
returns c = same_test _ c.args.bytes.now c.is_name.ensures
