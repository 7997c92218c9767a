use Rattle.std.proofs.Common.{◌≡◌, ◌++◌, T, length}
use Rattle.std.specs.FinMap.Entries.{is_sorted}
use Rattle.kfs_maps.specs.Chunks.Edits.{entered_all, KeysAscend}
use Rattle.kfs_maps.specs.Chunks.Joined.{joined_by, EachBy}
use Rattle.kfs_maps.proofs.chunks.run.push_rebuilt.Given as goal

abbrev pub invariant-loop-first : goal.invariant-loop-first
invariant-loop-first g l = record {
  ascend : KeysAscend g.K.Ord.cmp l.later;
  sorted : T (is_sorted g.K.Ord.cmp (joined_by g.R.Run.entries l.left));
  left : EachBy g.R.Run.entries g.R.Recut.fits l.left;
  fit : EachBy g.R.Run.entries g.R.Recut.fits l.new.items;
  joined : joined_by g.R.Run.entries l.new.items ++ entered_all g.K.Ord.cmp (joined_by g.R.Run.entries l.left) l.later ≡ joined_by g.R.Run.entries l.fn.new.items ++ entered_all g.K.Ord.cmp (joined_by g.R.Run.entries l.runs) l.edits;
}

abbrev pub decreases-loop-first : goal.decreases-loop-first
decreases-loop-first g l = length l.left
