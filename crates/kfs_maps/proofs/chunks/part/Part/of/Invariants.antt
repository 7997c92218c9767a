use Rattle.std.proofs.Common.{◌≡◌, ◌++◌, length, drop}
use Rattle.kfs_maps.specs.Chunks.Joined.{joined, AreSized}
use Rattle.kfs_maps.proofs.chunks.part.Part.of.Given as goal

-- the chunks so far, and those that are left, hold what all do
abbrev pub invariant-loop-chunk : goal.invariant-loop-chunk
invariant-loop-chunk g l = record {
  joined : joined l.own.items ++ joined (drop l.chunk-index l.chunks) ≡ joined l.chunks;
  sized : AreSized l.own.items;
  count : length l.own.items ≡ l.chunk-index;
}
