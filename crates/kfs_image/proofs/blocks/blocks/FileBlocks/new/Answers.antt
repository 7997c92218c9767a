use Rattle.kfs_image.proofs.BlocksLemmas.HeldBlocks.{held_fresh, shown_fresh}
use Rattle.kfs_image.proofs.blocks.blocks.FileBlocks.new.Goals as goal

pub invariant_of-result : goal.invariant_of-result
invariant_of-result g c = held_fresh c.args.sizes c.new-2.result c.in_ok-tiers.tiers c.new-2.ensures c.in_ok-tiers.ensures

pub returns : goal.returns
returns g c = shown_fresh c.args.sizes c.new-2.result c.in_ok-tiers.tiers c.new-2.ensures c.in_ok-tiers.ensures
