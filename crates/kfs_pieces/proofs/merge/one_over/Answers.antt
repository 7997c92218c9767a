use Rattle.kfs_pieces.proofs.OneOver.{over_fits, over_in_order, over_is_few, over_says}
use Rattle.kfs_pieces.proofs.merge.one_over.Goals as goal

pub returns-clause-order : goal.returns-clause-order
returns-clause-order g c = over_in_order c.args.lower.now c.args.upper.now c.in_ok-out.out.items c.in_ok-out.ensures c.requires.lower c.requires.upper

pub returns-clause-says : goal.returns-clause-says
returns-clause-says g c = over_says c.args.lower.now c.args.upper.now c.in_ok-out.out.items c.in_ok-out.ensures c.requires.lower c.requires.upper

pub returns-clause-fit : goal.returns-clause-fit
returns-clause-fit g c = over_fits c.args.lower.now c.args.upper.now c.in_ok-out.out.items c.in_ok-out.ensures c.requires.lower c.requires.upper

pub returns-clause-few : goal.returns-clause-few
returns-clause-few g c = over_is_few c.args.lower.now c.args.upper.now c.in_ok-out.out.items c.in_ok-out.ensures c.requires.lower c.requires.upper
