use Rattle.std.proofs.Common.{◌+◌, ap, ◌∙◌}
use Rattle.std.specs.Option.{option_map}
use Rattle.kfs_types.specs.Views.{name_row_of}
use Rattle.kfs_shape.specs.Names.{order_test}
use Rattle.kfs_shape.proofs.Tests.{ordered_at, taken_in, rest_ordered}
use Rattle.kfs_shape.proofs.names.least_unordered.Goals as goal

pub loop-index-preserved : goal.loop-index-preserved
loop-index-preserved c =
    let rows = c.args.rows.now in
    let row = c.index-rows-index.result in
    let holds = c.is_in_order.ensures ∙ ap (λ o. (order_test (option_map name_row_of o, name_row_of row)).holds) c.previous.ensures in
    taken_in _ _ c.loop-index.least c.noted-least.result _ (rest_ordered name_row_of order_test rows (c.loop-index.index + 1)) _ c.noted-least.ensures holds
    (ordered_at name_row_of order_test rows c.loop-index.index row c.loop-index-test.true c.index-rows-index.is) c.loop-index.invariant
