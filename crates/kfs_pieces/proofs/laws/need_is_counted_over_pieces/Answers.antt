use Rattle.kfs_pieces.proofs.NeedCounted.{need_is_counted}
use Rattle.kfs_pieces.proofs.laws.need_is_counted_over_pieces.Goals as goal

pub returns : goal.returns
returns c = need_is_counted
