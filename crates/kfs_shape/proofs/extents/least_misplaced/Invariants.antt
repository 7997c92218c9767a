use Rattle.std.proofs.Common.{◌≡◌}
use Rattle.kfs_model.specs.Device.RawImage.{heads_of}
use Rattle.kfs_model.specs.Device.Rules.{test, rule_8}
use Rattle.kfs_model.specs.Device.Finding.{least_failed}
use Rattle.kfs_shape.specs.Least.{merged}
use Rattle.kfs_image.specs.Codec.RawImages.{extent_row_of, raw_of}
use Rattle.kfs_shape.proofs.Tests.{rest_ordered}
use Rattle.kfs_shape.proofs.Neighbours.{beside}
use Rattle.kfs_shape.proofs.extents.least_misplaced.Given as goal

abbrev pub invariant-loop-index : goal.invariant-loop-index
invariant-loop-index g l = merged l.least (rest_ordered extent_row_of (λ e. test (beside (heads_of (raw_of l.raw)) e) e.1.number) l.rows l.index) ≡ least_failed (rule_8 (raw_of l.raw))
