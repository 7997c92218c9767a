use Rattle.kfs_model.proofs.LeasesKept.{granted_compatible, granted_by_number_compatible, dropped_compatible, ticked_compatible}
use Rattle.kfs_model.proofs.laws.leases_stay_compatible.Goals as goal

pub returns-clause-granted : goal.returns-clause-granted
returns-clause-granted c = granted_compatible

pub returns-clause-granted_by_number : goal.returns-clause-granted_by_number
returns-clause-granted_by_number c = granted_by_number_compatible

pub returns-clause-dropped : goal.returns-clause-dropped
returns-clause-dropped c = dropped_compatible

pub returns-clause-ticked : goal.returns-clause-ticked
returns-clause-ticked c = ticked_compatible
