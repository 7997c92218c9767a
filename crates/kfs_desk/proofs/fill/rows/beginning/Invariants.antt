use Rattle.std.proofs.Common.{◌≡◌, ◌≤◌, ◌-◌, ◌++◌, length, take, drop, map}
use Rattle.kfs_types.specs.Views.{piece_of}
use Rattle.kfs_desk.specs.Fill.Bytes.{beginning}
use Rattle.kfs_desk.proofs.fill.rows.beginning.Given as goal

abbrev pub invariant-loop-end : goal.invariant-loop-end
invariant-loop-end l = record {
  within : l.end ≤ length l.pieces;
  same : map piece_of (take l.end l.pieces) ++ beginning l.number l.place (map piece_of (drop l.end l.pieces)) ≡ beginning l.number l.place (map piece_of l.pieces);
}

abbrev pub decreases-loop-end : goal.decreases-loop-end
decreases-loop-end l = length l.pieces - l.end
