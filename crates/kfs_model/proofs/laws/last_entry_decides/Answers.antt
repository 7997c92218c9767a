use Rattle.kfs_model.proofs.LastCover.{mark_is}
use Rattle.kfs_model.proofs.Ends.{each_end}
use Rattle.kfs_model.proofs.laws.last_entry_decides.Goals as goal

pub returns : goal.returns
returns c client before tree entries opens = each_end _ _ (λ after. mark_is client before tree entries after opens)
