use Rattle.std.proofs.Common.{map, ap, ◌∙◌}
use Rattle.kfs_model.specs.Device.Rules.{header_test}
use Rattle.kfs_model.specs.Device.Finding.{least_failed}
use Rattle.kfs_image.specs.Codec.RawImages.{raw_node_of}
use Rattle.kfs_shape.proofs.nodes.least_bad_header.Goals as goal

pub returns : goal.returns
returns g c = c.least_failed.ensures ∙ ap (λ rows. least_failed (map (header_test c.args.raw.now.version) (map raw_node_of rows))) c.as_slice.ensures.value
