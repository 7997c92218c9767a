use Rattle.std.proofs.Common.{◌≡◌, ◌≤◌, ◌-◌, ◌++◌, length, take}
use Rattle.kfs_maps.specs.Chunks.Joined.{joined, AreSized}
use Rattle.kfs_maps.proofs.chunks.change.cut.Given as goal

abbrev pub invariant-loop-from : goal.invariant-loop-from
invariant-loop-from g l = record {
  within : l.from ≤ length l.entries.pairs;
  sized : AreSized l.new.items;
  joined : joined l.new.items ≡ joined l.fn.new.items ++ take l.from l.entries.pairs;
}

abbrev pub decreases-loop-from : goal.decreases-loop-from
decreases-loop-from g l = length l.entries.pairs - l.from
