use Rattle.kfs_model.proofs.DeviceLemmas.ClimbTest.{found_is_reach, reach_is_found}
use Rattle.kfs_model.proofs.device.laws.climb_test_is_exact.Goals as goal

pub returns-clause-found : goal.returns-clause-found
returns-clause-found c = found_is_reach

pub returns-clause-only : goal.returns-clause-only
returns-clause-only c = reach_is_found
