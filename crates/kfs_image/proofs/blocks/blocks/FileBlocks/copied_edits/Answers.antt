use Rattle.kfs_image.proofs.BlocksLemmas.FilledBlocks.{can_change, changed_is}
use Rattle.kfs_image.proofs.blocks.blocks.FileBlocks.copied_edits.Goals as goal

pub returns-clause-can : goal.returns-clause-can
returns-clause-can g c =
    can_change c.args.released.now c.args.rows.now c.args.self.now c.in_ok-places.places.items c.in_ok-written.written.items c.in_ok-places.ensures.placed c.in_ok-written.ensures c.in_ok-places.ensures.ascend c.requires

pub returns-clause-fill : goal.returns-clause-fill
returns-clause-fill g c =
    changed_is c.args.released.now c.args.rows.now c.args.self.now c.in_ok-places.places.items c.in_ok-written.written.items c.in_ok-places.ensures.placed c.in_ok-written.ensures
