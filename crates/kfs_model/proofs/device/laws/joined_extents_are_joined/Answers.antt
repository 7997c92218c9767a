use Rattle.kfs_model.proofs.DeviceLemmas.JoinedExtents.{are_joined}
use Rattle.kfs_model.proofs.device.laws.joined_extents_are_joined.Goals as goal

pub returns : goal.returns
returns c = are_joined
