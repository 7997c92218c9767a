use Rattle.kfs_model.proofs.OldBytes.{old_bytes_stand}
use Rattle.kfs_model.proofs.Ends.{each_end}
use Rattle.kfs_model.proofs.laws.old_bytes_keep_their_place.Goals as goal

pub returns : goal.returns
returns c client before tree entries = each_end _ _ (old_bytes_stand client before tree entries)
