use Rattle.std.proofs.Common.{◌≡◌, ◌+◌, length, Bor}
use Rattle.std.specs.Range.Bound.{bound_map}
use Rattle.kfs_image.specs.Encode.Rows.{entries_from}
use Rattle.kfs_image.proofs.encode.names.count_names.Given as goal

-- those counted and those left are all
abbrev pub invariant-loop-run : goal.invariant-loop-run
invariant-loop-run g l = l.rows.count + length (entries_from (bound_map (λ (x : Bor _). x.now) l.start) l.image.names) ≡ length l.image.names.entries

abbrev pub decreases-loop-run : goal.decreases-loop-run
decreases-loop-run g l = length (entries_from (bound_map (λ (x : Bor _). x.now) l.start) l.image.names)
