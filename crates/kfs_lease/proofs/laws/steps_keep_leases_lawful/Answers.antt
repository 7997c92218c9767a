use Rattle.kfs_lease.proofs.ListLemmas.Kept.{steps_keep}
use Rattle.kfs_lease.proofs.laws.steps_keep_leases_lawful.Goals as goal

pub returns : goal.returns
returns c = steps_keep
