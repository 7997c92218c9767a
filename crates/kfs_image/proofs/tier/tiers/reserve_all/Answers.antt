use Rattle.std.proofs.Common.{◌∙◌}
use Rattle.kfs_image.proofs.TierLemmas.TierLists.{rooms_more}
use Rattle.kfs_image.proofs.tier.tiers.reserve_all.Goals as goal

pub loop-block-preserved : goal.loop-block-preserved
loop-block-preserved g c = record {
  free = c.reserve.ensures.free ∙ c.loop-block.invariant.free;
  devices = c.reserve.ensures.devices ∙ c.loop-block.invariant.devices;
  room = rooms_more c.args.blocks.now c.loop-block.tiers c.reserve.new.tiers c.loop-block.block-index c.block-item.result c.block-item.is c.reserve.ensures.others
      c.in_ok-reserve.ensures.room c.loop-block.invariant.room c.loop-block-test.true;
}
