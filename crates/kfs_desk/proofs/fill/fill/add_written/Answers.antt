use Rattle.std.proofs.Common.{ℕ, ◌++◌, map, ap, ◌∙◌}
use Rattle.kfs_desk.proofs.FillLemmas.Pushed.{pushed_one, pushed_all}
use Rattle.kfs_desk.proofs.fill.fill.add_written.Goals as goal

pub loop-block-preserved : goal.loop-block-preserved
loop-block-preserved g c =
    pushed_one (λ (block : ℕ). (c.args.number, block)) c.deref-block-items.result.now c.loop-block.block-index c.loop-block.out.items _ 0 c.push.new.self.items c.loop-block-test.true c.in_ok-push.ensures.items c.loop-block.invariant

pub returns : goal.returns
returns g c =
    pushed_all (λ (block : ℕ). (c.args.number, block)) c.deref-block-items.result.now c.loop-block.block-index c.loop-block.out.items _ c.loop-block-test.false c.loop-block.invariant
    ∙ ap (λ blocks. c.args.out.now.items ++ map (λ (block : ℕ). (c.args.number, block)) blocks) (c.deref-block-items.ensures.value ∙ c.in_ok-blocks.ensures)
