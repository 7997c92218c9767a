use Rattle.std.proofs.Common.{◌≡◌, map}
use Rattle.kfs_model.specs.Device.Finding.{least_failed}
use Rattle.kfs_shape.specs.Least.{merged}
use Rattle.kfs_shape.specs.NodeTests.{test_of}
use Rattle.kfs_image.specs.Codec.RawImages.{raw_node_of}
use Rattle.kfs_shape.proofs.Tests.{rest_failed}
use Rattle.kfs_shape.proofs.node_test.NodeTest.least_failed.Given as goal

abbrev pub invariant-loop-row : goal.invariant-loop-row
invariant-loop-row l = merged l.least (rest_failed raw_node_of (test_of l.self) l.rows l.row-index) ≡ least_failed (map (test_of l.self) (map raw_node_of l.rows))
