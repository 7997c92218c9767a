-- As many times none as were counted.
use Rattle.std.proofs.Common.{◌≡◌, None, replicate}
use Rattle.kfs_desk.proofs.verdict.workers.none_of.Given as goal

abbrev pub invariant-loop : goal.invariant-loop
invariant-loop g l = l.list.items ≡ replicate l.counter None
