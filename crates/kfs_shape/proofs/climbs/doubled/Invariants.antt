use Rattle.std.proofs.Common.{◌≡◌, ◌++◌, map, drop}
use Rattle.kfs_shape.specs.Climbs.{ancestor_from}
use Rattle.kfs_shape.proofs.climbs.doubled.Given as goal

abbrev pub invariant-loop-up : goal.invariant-loop-up
invariant-loop-up g l = l.twice.items ++ map (ancestor_from l.ancestors) (drop l.up-index l.ancestors) ≡ map (ancestor_from l.ancestors) l.ancestors
