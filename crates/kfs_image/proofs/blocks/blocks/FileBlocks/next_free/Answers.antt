use Rattle.kfs_image.proofs.BlocksLemmas.HeldBlocks.{next_found, next_none}
use Rattle.kfs_image.proofs.blocks.blocks.FileBlocks.next_free.Goals as goal

pub returns-clause-found : goal.returns-clause-found
returns-clause-found g c = next_found c.self.inside.placement c.self.inside.tiers c.args.self.now c.self.view_is c.self.invariant c.args.tier c.args.from c.next_free.result c.next_free.ensures.found

pub returns-clause-none : goal.returns-clause-none
returns-clause-none g c = next_none c.self.inside.placement c.self.inside.tiers c.args.self.now c.self.view_is c.self.invariant c.args.tier c.args.from c.next_free.result c.next_free.ensures.none
