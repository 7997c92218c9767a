use Rattle.std.proofs.Common.{◌+◌, get_or, ap, ◌∙◌}
use Rattle.std.specs.Option.{option_map}
use Rattle.kfs_types.specs.declared.entry.Kind.TheVariants as kinds
use Rattle.kfs_model.specs.Device.Rules.{number_test}
use Rattle.kfs_image.specs.declared.codec.raw.RawNode.{RawNode}
use Rattle.kfs_image.specs.Codec.RawImages.{raw_node_of}
use Rattle.kfs_shape.proofs.Tests.{ordered_step, taken_in, rest_ordered}
use Rattle.kfs_shape.proofs.nodes.least_out_of_order.Goals as goal

abbrev none : RawNode
none = record { number = 0; header = record { kind = kinds.File; mode = 0; uid = 0; gid = 0; links = 0; size = 0 } }

pub loop-index-preserved : goal.loop-index-preserved
loop-index-preserved g c =
    let rows = c.as_slice-rows.result.now in
    let row : RawNode = get_or rows c.loop-index.index none in
    let holds = c.is_in_order-holds.ensures ∙ ap (λ o. (number_test (option_map raw_node_of o, raw_node_of row)).holds) c.previous.ensures in
    taken_in _ _ c.loop-index.least c.noted-least.result _ (rest_ordered raw_node_of number_test rows (c.loop-index.index + 1)) _ c.noted-least.ensures holds
    (ordered_step raw_node_of number_test rows c.loop-index.index none c.loop-index-test.true) c.loop-index.invariant
