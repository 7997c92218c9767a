use Rattle.std.proofs.Common.{map, ap, ◌∙◌}
use Rattle.kfs_model.specs.Device.Finding.{least_failed}
use Rattle.kfs_shape.specs.Climbs.{top_test}
use Rattle.kfs_image.specs.Codec.RawImages.{raw_node_of, raw_of}
use Rattle.kfs_shape.proofs.NodeRules.{top_is_rule_7}
use Rattle.kfs_shape.proofs.climbs.least_unrooted.Goals as goal

pub returns : goal.returns
returns g c =
    let tops = c.in_ok-tops.tops.items in
    c.least_failed.ensures
    ∙ ap (λ tops. least_failed (map (top_test tops) (map raw_node_of c.as_slice-2.result.now))) c.as_slice.ensures.value
    ∙ ap (λ rows. least_failed (map (top_test tops) (map raw_node_of rows))) c.as_slice-2.ensures.value
    ∙ top_is_rule_7 (raw_of c.args.raw.now) c.requires.in_range tops c.in_ok-tops.ensures
