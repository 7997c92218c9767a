use Rattle.std.proofs.Common.{◌≡◌, ◌≤◌, ◌+◌, ◌-◌, ◌++◌, length, drop}
use Rattle.kfs_model.proofs.Reading.{number32_read}
use Rattle.kfs_call.specs.Readers.{made_of, rows_at}
use Rattle.kfs_call.proofs.codec.groups.read_each.Given as goal

abbrev pub invariant-loop-k : goal.invariant-loop-k
invariant-loop-k l = record {
  inside : l.end ≤ length l.source;
  number : length l.groups.items ≡ l.k;
  behind : rows_at number32_read 0 l.count (drop l.at l.source) ≡ made_of (λ rows. l.groups.items ++ rows) (rows_at number32_read (0 + l.k) (l.count - l.k) (drop l.end l.source));
}
