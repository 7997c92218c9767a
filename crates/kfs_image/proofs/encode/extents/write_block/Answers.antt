use Rattle.std.proofs.Common.{rules, ◌∙◌}
use Rattle.kfs_model.specs.Limits.{block_size}
use Rattle.kfs_image.proofs.EncodeLemmas.Zeros.{zero_end}
use Rattle.kfs_image.proofs.encode.extents.write_block.Goals as goal

pub read_block-requires-clause-zero : goal.read_block-requires-clause-zero
read_block-requires-clause-zero g c =
    zero_end c.deref_mut.result.now c.args.out.now.items block_size c.len-len.result (c.deref_mut.ensures.value ∙ c.in_ok-push_zeros.ensures) (search rules)
