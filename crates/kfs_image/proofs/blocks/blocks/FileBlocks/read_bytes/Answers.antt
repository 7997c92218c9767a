use Rattle.std.proofs.Common.{arith}
use Rattle.kfs_image.proofs.BlocksLemmas.ReadAcross.{read_further}
use Rattle.kfs_image.proofs.blocks.blocks.FileBlocks.read_bytes.Goals as goal

pub loop-done-init : goal.loop-done-init
loop-done-init g c k below = absurd (omega (arith, below))

pub loop-done-preserved : goal.loop-done-preserved
loop-done-preserved g c =
    read_further c.args.self.now.placement c.args.self.now.devices c.args.number c.args.start c.loop-done.buffer c.read.new.buffer c.loop-done.done c.min-count.result
    (omega (arith, c.loop-done-test.true)) (omega (arith, c.read.auto.buffer, c.min-count.ensures, c.loop-done-test.true)) c.loop-done.invariant
    (λ k below. c.read.ensures k (omega (arith, below, c.read.auto.buffer, c.min-count.ensures, c.loop-done-test.true)))

pub returns : goal.returns
returns g c k below = c.loop-done.invariant k (omega (arith, below, c.loop-done-test.false))
