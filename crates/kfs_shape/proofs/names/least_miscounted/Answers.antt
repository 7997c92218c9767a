use Rattle.std.proofs.Common.{map, ap, ◌∙◌}
use Rattle.kfs_model.specs.Device.Finding.{least_failed}
use Rattle.kfs_shape.specs.NameCounts.{counted_test}
use Rattle.kfs_image.specs.Codec.RawImages.{raw_node_of, raw_of}
use Rattle.kfs_shape.proofs.NodeRules.{counted_is_rule_6}
use Rattle.kfs_shape.proofs.names.least_miscounted.Goals as goal

pub returns : goal.returns
returns g c =
    let counts = c.in_ok-counts.counts.items in
    c.least_failed.ensures
    ∙ ap (λ counts. least_failed (map (counted_test counts) (map raw_node_of c.as_slice-2.result.now))) c.as_slice.ensures.value
    ∙ ap (λ rows. least_failed (map (counted_test counts) (map raw_node_of rows))) c.as_slice-2.ensures.value
    ∙ counted_is_rule_6 (raw_of c.args.raw.now) counts c.in_ok-counts.ensures
