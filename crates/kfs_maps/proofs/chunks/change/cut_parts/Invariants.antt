use Rattle.std.proofs.Common.{◌≡◌, ◌++◌, T, length}
use Rattle.std.specs.FinMap.Entries.{is_sorted}
use Rattle.kfs_maps.specs.Chunks.Joined.{joined, AreSized, AreFilled}
use Rattle.kfs_maps.proofs.chunks.change.cut_parts.Given as goal

abbrev pub invariant-loop-left : goal.invariant-loop-left
invariant-loop-left g l = record {
  sorted : T (is_sorted g.K.Ord.cmp (joined l.left));
  sized : AreSized l.left;
  filled : AreFilled l.new.items;
  joined : joined l.new.items ++ joined l.left ≡ joined l.fn.new.items ++ joined l.chunks;
}

abbrev pub decreases-loop-left : goal.decreases-loop-left
decreases-loop-left g l = length l.left
