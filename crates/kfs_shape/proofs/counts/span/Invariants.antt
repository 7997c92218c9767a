use Rattle.std.proofs.Common.{◌≤◌, ◌<◌, All, take}
use Rattle.kfs_shape.proofs.counts.span.Given as goal

abbrev pub invariant-loop-row : goal.invariant-loop-row
invariant-loop-row l = record {
  root : 2 ≤ l.span;
  rows : All (λ row. row.number < l.span) (take l.row-index l.rows);
}
