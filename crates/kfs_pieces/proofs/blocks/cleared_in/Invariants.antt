use Rattle.std.proofs.Common.{◌≡◌, ◌++◌, ◌≤◌, map, drop}
use Rattle.kfs_model.specs.Limits.{size_limit}
use Rattle.kfs_types.specs.Views.{piece_of}
use Rattle.kfs_pieces.specs.BlockLists.{cleared_from, cleared_runs}
use Rattle.kfs_pieces.proofs.blocks.cleared_in.Given as goal

abbrev pub invariant-loop-index : goal.invariant-loop-index
invariant-loop-index g l = record {
  lists : l.out.items ++ cleared_from l.size l.start l.end (map piece_of (drop l.index l.pieces)) ≡ cleared_runs l.size (map piece_of l.pieces);
  begun : l.start ≤ size_limit;
  ended : l.end ≤ size_limit;
}
