use Rattle.kfs_model.proofs.DeviceLemmas.LeastFinding.{finding_is_least, least_is_found, one_least, none_is_broken, none_from_unbroken}
use Rattle.kfs_model.proofs.device.laws.finding_is_the_least.Goals as goal

pub returns-clause-least : goal.returns-clause-least
returns-clause-least c = finding_is_least

pub returns-clause-found : goal.returns-clause-found
returns-clause-found c = least_is_found

pub returns-clause-one : goal.returns-clause-one
returns-clause-one c = one_least

pub returns-clause-unbroken : goal.returns-clause-unbroken
returns-clause-unbroken c = none_is_broken

pub returns-clause-well_formed : goal.returns-clause-well_formed
returns-clause-well_formed c = none_from_unbroken
