use Rattle.std.proofs.Common.{◌≡◌}
use Rattle.kfs_model.specs.Device.Rules.{number_test, rule_1}
use Rattle.kfs_model.specs.Device.Finding.{least_failed}
use Rattle.kfs_shape.specs.Least.{merged}
use Rattle.kfs_image.specs.Codec.RawImages.{raw_node_of, raw_of}
use Rattle.kfs_shape.proofs.Tests.{rest_ordered}
use Rattle.kfs_shape.proofs.nodes.least_out_of_order.Given as goal

abbrev pub invariant-loop-index : goal.invariant-loop-index
invariant-loop-index g l = merged l.least (rest_ordered raw_node_of number_test l.rows l.index) ≡ least_failed (rule_1 (raw_of l.raw))
