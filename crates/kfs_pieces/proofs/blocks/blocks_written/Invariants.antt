use Rattle.std.proofs.Common.{◌≡◌, ◌+◌, ◌≤◌, ◌^◌, map, drop}
use Rattle.kfs_types.specs.Views.{piece_of}
use Rattle.kfs_pieces.specs.TouchedBlocks.{counted, touches}
use Rattle.kfs_pieces.proofs.blocks.blocks_written.Given as goal

abbrev pub invariant-loop-index : goal.invariant-loop-index
invariant-loop-index l = record {
  counts : l.count.total + counted l.count.next (touches l.size l.until (map piece_of (drop l.index l.pieces))) ≡ counted 0 (touches l.size 0 (map piece_of l.pieces));
  low : l.count.total ≤ l.count.next;
  near : l.count.next ≤ 2 ^ 20 + 1;
}
