use Rattle.std.proofs.Common.{◌≡◌, None, replicate}
use Rattle.kfs_maps.proofs.pages.page.nothing.Given as goal

abbrev pub invariant-loop : goal.invariant-loop
invariant-loop g l = l.list.items ≡ replicate l.counter None
