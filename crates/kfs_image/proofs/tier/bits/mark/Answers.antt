use Rattle.kfs_image.proofs.TierLemmas.MarkedBits.{is_marked-mark}
use Rattle.kfs_image.proofs.tier.bits.mark.Goals as goal

pub returns : goal.returns
returns c = is_marked-mark c.args.words.now c.args.place c.requires
