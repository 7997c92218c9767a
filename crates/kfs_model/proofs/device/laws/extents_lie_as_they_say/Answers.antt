use Rattle.kfs_model.proofs.DeviceLemmas.LaidOut.{laid_out}
use Rattle.kfs_model.proofs.device.laws.extents_lie_as_they_say.Goals as goal

pub returns : goal.returns
returns c = laid_out
