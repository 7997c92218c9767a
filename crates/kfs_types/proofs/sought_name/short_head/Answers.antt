use Rattle.std.proofs.Common.{◌∙◌, ◌++◌, length, ap}
use Rattle.std.proofs.lemmas.List.{drop-replicate}
use Rattle.std.specs.Int.{w128, from_be_bytes}
use Rattle.kfs_types.proofs.sought_name.short_head.Goals as goal

pub returns : goal.returns
returns c = c.from_be_bytes.ensures ∙ ap (from_be_bytes w128) (λ i. c.copy_from_slice.ensures.after i ++ drop-replicate (length c.args.bytes.now) 16 0 i)
