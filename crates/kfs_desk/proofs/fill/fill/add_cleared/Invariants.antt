use Rattle.std.proofs.Common.{◌≡◌, ◌++◌, map, drop}
use Rattle.kfs_desk.specs.Fill.FillOf.{run_of}
use Rattle.kfs_desk.proofs.fill.fill.add_cleared.Given as goal

abbrev pub invariant-loop-range : goal.invariant-loop-range
invariant-loop-range g l = l.out.items ++ map (run_of l.number) (drop l.range-index l.range-items) ≡ l.fn.out.items ++ map (run_of l.number) l.range-items
