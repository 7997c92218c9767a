use Rattle.std.proofs.Common.{◌≡◌, ◌+◌, ◌-◌, ◌≤◌, length, drop}
use Rattle.kfs_pieces.specs.Parts.{front_len}
use Rattle.kfs_pieces.proofs.blocks.front_len.Given as goal

abbrev pub invariant-loop-len : goal.invariant-loop-len
invariant-loop-len l = record {
  within : l.len ≤ length l.pieces;
  counts : l.len + front_len l.number (drop l.len l.pieces) ≡ front_len l.number l.pieces;
}

abbrev pub decreases-loop-len : goal.decreases-loop-len
decreases-loop-len l = length l.pieces - l.len
