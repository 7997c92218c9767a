use Rattle.std.proofs.Common.{◌≡◌, ◌++◌, ◌+◌, ◌≤◌, ◌^◌, map, drop}
use Rattle.kfs_types.specs.Views.{piece_of}
use Rattle.kfs_pieces.specs.TouchedBlocks.{touches}
use Rattle.kfs_pieces.specs.BlockLists.{listed}
use Rattle.kfs_pieces.proofs.blocks.written_in.Given as goal

abbrev pub invariant-loop-index : goal.invariant-loop-index
invariant-loop-index g l = record {
  lists : l.out.items ++ listed l.next (touches l.size l.until (map piece_of (drop l.index l.pieces))) ≡ listed 0 (touches l.size 0 (map piece_of l.pieces));
  near : l.next ≤ 2 ^ 20 + 1;
}
