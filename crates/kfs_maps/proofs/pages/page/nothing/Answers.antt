use Rattle.std.proofs.Common.{◌∙◌, ap, arith, replicate, None}
use Rattle.kfs_maps.proofs.pages.page.nothing.Goals as goal

pub returns : goal.returns
returns g c = c.loop.invariant ∙ ap (λ n. replicate n None) {x = c.loop.counter} {y = c.args.count} (omega (arith, c.loop-test.false, c.loop.auto))
