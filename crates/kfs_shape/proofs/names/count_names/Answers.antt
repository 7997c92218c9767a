use Rattle.kfs_image.specs.Codec.RawImages.{raw_of}
use Rattle.kfs_shape.proofs.NameCounts.{all_counted}
use Rattle.kfs_shape.proofs.Parents.{all_below}
use Rattle.kfs_shape.proofs.names.count_names.Goals as goal

pub returns : goal.returns
returns g c =
    all_counted (raw_of c.args.raw.now) c.span-many.result c.args.links.now c.requires.links c.requires.ascend
    (all_below c.args.raw.now c.span-many.result c.as_slice.result.now c.as_slice.ensures.value c.span-many.ensures.rows) c.name_counts.result c.name_counts.ensures
