use Rattle.std.proofs.Common.{◌≡◌, map}
use Rattle.kfs_types.specs.Views.{name_row_of}
use Rattle.kfs_shape.specs.Least.{merged}
use Rattle.kfs_shape.specs.Names.{order_test, least_unordered}
use Rattle.kfs_shape.proofs.Tests.{rest_ordered}
use Rattle.kfs_shape.proofs.names.least_unordered.Given as goal

abbrev pub invariant-loop-index : goal.invariant-loop-index
invariant-loop-index l = merged l.least (rest_ordered name_row_of order_test l.rows l.index) ≡ least_unordered (map name_row_of l.rows)
