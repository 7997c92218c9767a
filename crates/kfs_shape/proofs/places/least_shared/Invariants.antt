use Rattle.std.proofs.Common.{◌≡◌}
use Rattle.kfs_model.specs.Device.Rules.{place_test, rule_10}
use Rattle.kfs_model.specs.Device.Finding.{least_failed}
use Rattle.kfs_shape.specs.Least.{merged}
use Rattle.kfs_image.specs.Codec.RawImages.{extent_row_of, raw_of}
use Rattle.kfs_shape.proofs.Tests.{rest_failed}
use Rattle.kfs_shape.proofs.places.least_shared.Given as goal

abbrev pub invariant-loop-row : goal.invariant-loop-row
invariant-loop-row g l = merged l.least (rest_failed extent_row_of (place_test (raw_of l.raw).extents) l.rows l.row-index) ≡ least_failed (rule_10 (raw_of l.raw))
