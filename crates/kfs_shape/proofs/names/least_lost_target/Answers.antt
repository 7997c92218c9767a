use Rattle.std.proofs.Common.{◌∙◌}
use Rattle.kfs_shape.specs.Heads.{head_at}
use Rattle.kfs_image.specs.Codec.RawImages.{raw_of}
use Rattle.kfs_shape.proofs.NameTests.{rule_5_by_links}
use Rattle.kfs_shape.proofs.names.least_lost_target.Goals as goal

pub returns : goal.returns
returns g c = c.least_lost.ensures ∙ rule_5_by_links (raw_of c.args.raw.now) c.args.links.now (head_at c.args.headers.now) c.requires.links c.requires.shown
