-- The place is in its tier, and the bytes are a block's.
use Rattle.std.proofs.Common.{rules}
use Rattle.kfs_test_image.proofs.OneEdit.{can_write}
use Rattle.kfs_test_image.proofs.edits.writing.Goals as goal

pub returns-then-len-eq-BLOCK_LEN : goal.returns-then-len-eq-BLOCK_LEN
returns-then-len-eq-BLOCK_LEN g c = can_write c.args.image.now c.shape-shape.ensures.lawful c.args.tier c.args.place c.args.bytes (search rules) (search rules)
