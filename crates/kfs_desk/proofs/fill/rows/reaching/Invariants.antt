use Rattle.std.proofs.Common.{◌≡◌, ◌≤◌, ◌-◌, length, drop, map}
use Rattle.kfs_types.specs.Views.{piece_of}
use Rattle.kfs_desk.specs.Fill.Bytes.{reaching}
use Rattle.kfs_desk.proofs.fill.rows.reaching.Given as goal

abbrev pub invariant-loop-first : goal.invariant-loop-first
invariant-loop-first l = record {
  within : l.first ≤ length l.pieces;
  same : reaching l.number l.place (map piece_of (drop l.first l.pieces)) ≡ reaching l.number l.place (map piece_of l.pieces);
}

abbrev pub decreases-loop-first : goal.decreases-loop-first
decreases-loop-first l = length l.pieces - l.first
