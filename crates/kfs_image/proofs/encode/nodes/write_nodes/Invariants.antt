use Rattle.std.proofs.Common.{◌≡◌, ◌++◌, length}
use Rattle.std.specs.List.{flat_map}
use Rattle.std.specs.declared.ops.Bound.TheVariants.{Excluded}
use Rattle.kfs_image.specs.Encode.Rows.{entries_from, node_spelling}
use Rattle.kfs_image.proofs.encode.nodes.write_nodes.Given as goal

-- what is written and what is left to write are all
abbrev pub invariant-loop-row : goal.invariant-loop-row
invariant-loop-row g l = l.out.items ++ flat_map node_spelling (entries_from (Excluded l.after) l.image.heads) ≡ l.fn.out.items ++ flat_map node_spelling l.image.heads.entries

abbrev pub decreases-loop-row : goal.decreases-loop-row
decreases-loop-row g l = length (entries_from (Excluded l.after) l.image.heads)
