use Rattle.std.proofs.Common.{◌+◌, None, sym, subst, arith}
use Rattle.kfs_model.specs.Table.{pairs, numbers}
use Rattle.kfs_model.specs.Placement.{Placement}
use Rattle.kfs_maps.specs.Chunks.Tables.{table}
use Rattle.kfs_maps.proofs.ChunksLemmas.Overlays.{overlaid_set}
use Rattle.kfs_image.specs.Blocks.Walks.{seen}
use Rattle.kfs_image.proofs.BlocksLemmas.BlockWalks.{IsLess, less_none, less_step, less_end}
use Rattle.kfs_image.proofs.blocks.fill.unmap.Goals as goal

pub loop-block-init : goal.loop-block-init
loop-block-init g c = record {
  first = omega arith;
  less = less_none c.args.run.now (seen c.args.overlay.now c.args.placement.now);
}

pub loop-block-smaller : goal.loop-block-smaller
loop-block-smaller g c = omega (arith, c.in-Some.ensures.range.0, c.in-Some.ensures.range.1)

pub loop-block-preserved : goal.loop-block-preserved
loop-block-preserved g c =
    let run = c.args.run.now in
    let before = seen c.args.overlay.now c.args.placement.now in
    record {
      first = omega (arith, c.loop-block.invariant.first, c.in-Some.ensures.range.0);
      less =
          subst (λ (now : Placement). IsLess run before (c.in-Some.block + 1) now)
          (sym (overlaid_set (table (pairs numbers numbers) c.args.placement.now) c.loop-block.overlay.latest c.set.new.self.latest (run.number, c.in-Some.block) None c.in_ok-set.ensures))
          (less_step run before c.loop-block.from c.in-Some.block (seen c.loop-block.overlay c.args.placement.now) c.loop-block.invariant.first c.in-Some.ensures.range.0 c.in-Some.ensures.range.1
          (λ b above below. c.requires (run.number, b) (c.in-Some.ensures.between b above below)) c.loop-block.invariant.less);
    }

pub returns : goal.returns
returns g c =
    let run = c.args.run.now in
    less_end run (seen c.args.overlay.now c.args.placement.now) c.loop-block.from (seen c.loop-block.overlay c.args.placement.now)
    (λ b above below. c.requires (run.number, b) (c.in_default.ensures.none b above below)) c.loop-block.invariant.less
