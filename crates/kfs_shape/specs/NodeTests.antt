-- The tests of single node rows.
use Rattle.kfs_model.specs.Device.RawImage.{RawNode}
use Rattle.kfs_model.specs.Device.Rules.{Test, header_test}
use Rattle.kfs_shape.specs.Climbs.{top_test}
use Rattle.kfs_shape.specs.NameCounts.{counted_test}
use Rattle.kfs_shape.specs.declared.node_test.NodeTest.{NodeTest}
use Rattle.kfs_shape.specs.declared.node_test.NodeTest.TheVariants.{Header, Names, Climb}

abbrev pub test_of : NodeTest → RawNode → Test
test_of (Header version) = header_test version
test_of (Names counts) = counted_test counts.now
test_of (Climb tops) = top_test tops.now
