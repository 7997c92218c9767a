use Rattle.std.proofs.Common.{◌≡◌, ◌+◌, length}
use Rattle.std.specs.declared.ops.Bound.TheVariants.{Excluded}
use Rattle.kfs_image.specs.Encode.Rows.{entries_from}
use Rattle.kfs_image.proofs.encode.nodes.count_nodes.Given as goal

-- those counted and those left are all
abbrev pub invariant-loop-row : goal.invariant-loop-row
invariant-loop-row g l = l.rows.count + length (entries_from (Excluded l.after) l.image.heads) ≡ length l.image.heads.entries

abbrev pub decreases-loop-row : goal.decreases-loop-row
decreases-loop-row g l = length (entries_from (Excluded l.after) l.image.heads)
