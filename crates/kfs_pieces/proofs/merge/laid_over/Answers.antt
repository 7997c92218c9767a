use Rattle.std.proofs.Common.{◌∙◌}
use Rattle.kfs_pieces.proofs.Steps.{laid_on, laid_out}
use Rattle.kfs_pieces.proofs.merge.laid_over.Goals as goal

pub loop-range-preserved : goal.loop-range-preserved
loop-range-preserved g c =
    laid_on _ _ _ _ _ _ c.args.upper.now _ c.loop-range.range-index _ c.loop-range-test.true c.in_ok-left.ensures.taken c.in_ok-left.ensures.left c.in_ok-push.ensures.items c.skip_below-rest.ensures c.loop-range.invariant

pub returns : goal.returns
returns g c = c.in_ok-take_all.ensures ∙ laid_out _ _ c.args.upper.now _ c.loop-range.range-index c.loop-range-test.false c.loop-range.invariant
