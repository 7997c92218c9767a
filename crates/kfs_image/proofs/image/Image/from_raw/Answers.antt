use Rattle.kfs_image.proofs.RawLemmas.RawRows.{in_range}
use Rattle.kfs_image.proofs.image.Image.from_raw.Goals as goal

pub raw_headers-requires : goal.raw_headers-requires
raw_headers-requires g c = in_range c.args.raw c.requires
