use Rattle.kfs_model.proofs.DeviceLemmas.LaidOut.{free_is_in_none}
use Rattle.kfs_model.proofs.DeviceLemmas.Runs.{in_free_runs, free_runs_apart}
use Rattle.kfs_model.proofs.device.laws.free_runs_are_the_unused_places.Goals as goal

pub returns-clause-unused : goal.returns-clause-unused
returns-clause-unused c sizes placement place = in_free_runs sizes placement place.tier place.place

pub returns-clause-apart : goal.returns-clause-apart
returns-clause-apart c = free_runs_apart

pub returns-clause-in_no_extent : goal.returns-clause-in_no_extent
returns-clause-in_no_extent c = free_is_in_none
