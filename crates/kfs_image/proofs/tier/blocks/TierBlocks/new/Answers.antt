use Rattle.std.proofs.Common.{sym, subst}
use Rattle.kfs_image.specs.Tier.Blocks.{AreWhole}
use Rattle.kfs_image.proofs.TierLemmas.BlockTables.{blocks_of-none, AreWhole-empty}
use Rattle.kfs_image.proofs.tier.blocks.TierBlocks.new.Goals as goal

pub invariant_of-result : goal.invariant_of-result
invariant_of-result g c = subst AreWhole (sym (blocks_of-none c.new.result.entries c.new.ensures.empty)) AreWhole-empty

pub returns : goal.returns
returns g c = blocks_of-none c.new.result.entries c.new.ensures.empty
