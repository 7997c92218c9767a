use Rattle.std.proofs.Common.{arith}
use Rattle.kfs_image_nodes.proofs.tallies.Tallies.recount.Goals as goal

pub returns-clause-positive : goal.returns-clause-positive
returns-clause-positive g c = λ before. c.in_ok-enter.ensures.positive (c.in_ok-leave.ensures.positive before)

pub returns-clause-counts : goal.returns-clause-counts
returns-clause-counts g c = λ q. omega (arith, c.in_ok-leave.ensures.counts q, c.in_ok-enter.ensures.counts q)

pub returns-clause-uplinks : goal.returns-clause-uplinks
returns-clause-uplinks g c = λ q. omega (arith, c.in_ok-leave.ensures.uplinks q, c.in_ok-enter.ensures.uplinks q)
