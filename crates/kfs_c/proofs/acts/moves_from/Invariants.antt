-- The moves so far, and those of the rows that are left, are those of all rows.
use Rattle.std.proofs.Common.{◌≡◌, ◌++◌, map, drop}
use Rattle.kfs_c.specs.Calls.{move_of}
use Rattle.kfs_c.proofs.acts.moves_from.Given as goal

abbrev pub invariant-loop-row : goal.invariant-loop-row
invariant-loop-row l = l.moves.items ++ map move_of (drop l.row-index l.rows) ≡ map move_of l.rows
