use Rattle.std.proofs.Common.{length}
use Rattle.std.specs.declared.ops.Bound.TheVariants.{Excluded}
use Rattle.kfs_image.specs.Encode.Rows.{entries_from}
use Rattle.kfs_image.specs.Encode.Runs.{last_block}
use Rattle.kfs_image.proofs.EncodeLemmas.RunExtents.{Begins}
use Rattle.kfs_image.proofs.encode.extents.next_run.Given as goal

abbrev pub invariant-longer : goal.invariant-longer
invariant-longer g l = Begins l.image l.start l.run

abbrev pub decreases-longer : goal.decreases-longer
decreases-longer g l = length (entries_from (Excluded (last_block l.run)) l.image.placement)
