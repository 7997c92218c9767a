use Rattle.std.proofs.Common.{◌-◌, ◌≤◌}
use Rattle.kfs_image.specs.Blocks.Walks.{seen}
use Rattle.kfs_image.proofs.BlocksLemmas.BlockWalks.{IsLess}
use Rattle.kfs_image.proofs.blocks.fill.unmap.Given as goal

-- the blocks of the run before the next one are unmapped
abbrev pub invariant-loop-block : goal.invariant-loop-block
invariant-loop-block g l = record {
  first : l.run.first ≤ l.from;
  less : IsLess l.run (seen l.initial.overlay l.placement) l.from (seen l.overlay l.placement);
}

abbrev pub decreases-loop-block : goal.decreases-loop-block
decreases-loop-block g l = l.run.end - l.from
