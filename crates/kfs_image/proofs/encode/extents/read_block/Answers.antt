use Rattle.std.proofs.Common.{rules}
use Rattle.kfs_image.proofs.EncodeLemmas.Sizes.{block_is_read}
use Rattle.kfs_image.proofs.encode.extents.read_block.Goals as goal

pub returns : goal.returns
returns g c =
    block_is_read c.args.image.now c.args.number c.args.block _ c.read_file-count.result c.args.bytes.now c.read_file-count.new.buffer (search rules) c.requires.zero c.requires.whole
    c.read_file-count.ensures.read c.read_file-count.ensures.no_node c.read_file-count.ensures.directory c.read_file-count.ensures.kept
