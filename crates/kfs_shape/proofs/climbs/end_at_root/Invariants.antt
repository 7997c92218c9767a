use Rattle.std.proofs.Common.{◌≡◌, ℕ, ◌<◌, true, None, get_or}
use Rattle.kfs_shape.specs.Climbs.{not_elsewhere}
use Rattle.kfs_shape.proofs.climbs.end_at_root.Given as goal

abbrev pub invariant-loop-up : goal.invariant-loop-up
invariant-loop-up l = (k : ℕ) → k < l.up-index → not_elsewhere (get_or l.ancestors k None) ≡ true
