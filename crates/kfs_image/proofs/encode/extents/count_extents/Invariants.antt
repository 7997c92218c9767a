use Rattle.std.proofs.Common.{◌≡◌, ◌+◌, length}
use Rattle.kfs_model.specs.Device.ShownTree.{shown_tree}
use Rattle.kfs_model.specs.Device.Canonical.{extents_of}
use Rattle.kfs_image.specs.Encode.Runs.{extents_from}
use Rattle.kfs_image.proofs.encode.extents.count_extents.Given as goal

-- those counted and those left are all
abbrev pub invariant-loop-extent : goal.invariant-loop-extent
invariant-loop-extent g l = l.rows.count + length (extents_from l.image l.start) ≡ length (extents_of (shown_tree l.image) l.image.placement)

abbrev pub decreases-loop-extent : goal.decreases-loop-extent
decreases-loop-extent g l = length (extents_from l.image l.start)
