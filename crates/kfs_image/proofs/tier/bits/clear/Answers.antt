use Rattle.kfs_image.proofs.TierLemmas.MarkedBits.{is_marked-clear}
use Rattle.kfs_image.proofs.tier.bits.clear.Goals as goal

pub returns : goal.returns
returns c = is_marked-clear c.args.words.now c.args.place c.requires
