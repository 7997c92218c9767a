use Rattle.std.proofs.Common.{◌≡◌, ◌++◌, length}
use Rattle.std.specs.List.{flat_map}
use Rattle.kfs_model.specs.Device.ShownTree.{shown_tree}
use Rattle.kfs_model.specs.Device.Spelling.{extent_bytes}
use Rattle.kfs_model.specs.Device.Canonical.{extents_of}
use Rattle.kfs_image.specs.Encode.Runs.{extents_from}
use Rattle.kfs_image.proofs.encode.extents.write_extents.Given as goal

-- what is written and what is left to write are all
abbrev pub invariant-loop-extent : goal.invariant-loop-extent
invariant-loop-extent g l =
    l.out.items ++ flat_map extent_bytes (extents_from l.image l.start) ≡ l.fn.out.items ++ flat_map extent_bytes (extents_of (shown_tree l.image) l.image.placement)

abbrev pub decreases-loop-extent : goal.decreases-loop-extent
decreases-loop-extent g l = length (extents_from l.image l.start)
