-- The net leaves the image lawful, and no block is written.
use Rattle.kfs_image.proofs.EmptyFills.{can_apply_alone}
use Rattle.kfs_test_image.proofs.landed.apply_alone.Goals as goal

pub net_apply-requires : goal.net_apply-requires
net_apply-requires g c = can_apply_alone c.args.net.now c.in_ok-fill.fill c.in_ok-fill.ensures.0 c.in_ok-fill.ensures.1 c.args.image.now c.requires
