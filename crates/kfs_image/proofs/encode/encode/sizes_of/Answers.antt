use Rattle.std.proofs.Common.{rules}
use Rattle.kfs_image.proofs.encode.encode.sizes_of.Goals as goal

pub unwrap-requires : goal.unwrap-requires
unwrap-requires g c = search rules
