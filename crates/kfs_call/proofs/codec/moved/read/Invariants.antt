use Rattle.std.proofs.Common.{◌≡◌, ◌≤◌, ◌+◌, ◌-◌, ◌++◌, length, drop}
use Rattle.kfs_call.specs.Readers.{made_of, move_read, rows_at}
use Rattle.kfs_call.proofs.codec.moved.read.Given as goal

abbrev pub invariant-loop-k : goal.invariant-loop-k
invariant-loop-k g l = record {
  inside : l.end ≤ length l.source;
  behind : rows_at move_read 2 l.count (drop l.at l.source) ≡ made_of (λ rows. l.moves.items ++ rows) (rows_at move_read (2 + l.k) (l.count - l.k) (drop l.end l.source));
}
