use Rattle.std.proofs.Common.{◌≡◌, ◌≤◌, length, drop}
use Rattle.kfs_model.specs.Spelling.{AreRows}
use Rattle.kfs_entry.proofs.codec.row.read_rows.Given as goal

abbrev pub invariant-loop-k : goal.invariant-loop-k
invariant-loop-k g l = record {
  inside : l.end ≤ length l.source;
  number : length l.rows.items ≡ l.k;
  before : AreRows (g.R.ReadRow.fits l.version l.source) (g.R.SpelledRow.spelling l.source) l.rows.items (drop l.at l.source) (drop l.end l.source);
}
