use Rattle.std.proofs.Common.{length, ◌++◌}
use Rattle.std.proofs.lemmas.List.{drop-replicate}
use Rattle.kfs_types.proofs.name.padded.Goals as goal

pub returns : goal.returns
returns c = λ i. c.copy_from_slice.ensures.after i ++ drop-replicate (length c.args.bytes.now) 255 0 i
