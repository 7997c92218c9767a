use Rattle.kfs_test_image.proofs.OneEdit.{can_take_up}
use Rattle.kfs_test_image.proofs.edits.unmapping.Goals as goal

pub returns : goal.returns
returns g c = can_take_up c.args.image.now c.shape-shape.ensures.lawful c.args.number c.args.block
