use Rattle.kfs_fsck.proofs.SavedImages.{read_again}
use Rattle.kfs_fsck.proofs.laws.saved_image.Goals as goal

pub returns : goal.returns
returns c = read_again
