use Rattle.kfs_model.proofs.DeviceLemmas.ShownHeads.{bytes_shown}
use Rattle.kfs_model.proofs.device.laws.bytes_are_those_of_blocks.Goals as goal

pub returns : goal.returns
returns c = bytes_shown
