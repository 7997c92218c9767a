use Rattle.std.proofs.Common.{◌≡◌, ◌++◌, drop}
use Rattle.kfs_desk.specs.Landing.{removed_by}
use Rattle.kfs_desk.proofs.state_change.removed_nodes.Given as goal

-- the numbers so far, with those of the rows that are left, are those of all rows
abbrev pub invariant-loop-row : goal.invariant-loop-row
invariant-loop-row g l = l.removed.items ++ removed_by (drop l.row-index l.nodes) ≡ removed_by l.nodes
