use Rattle.std.proofs.Common.{◌≡◌, ℕ, ◌+◌, ◌≤◌, drop, count_by}
use Rattle.kfs_model.proofs.Counts.{tally}
use Rattle.kfs_shape.specs.Counts.{count_at}
use Rattle.kfs_shape.specs.Places.{lies_at}
use Rattle.kfs_shape.proofs.places.place_counts.Given as goal

abbrev pub invariant-loop-row : goal.invariant-loop-row
invariant-loop-row g l = record {
  counts : (n : ℕ) → count_at l.uses n + tally (lies_at n) (drop l.row-index l.rows) ≡ count_by (lies_at n) l.rows;
  few : (n : ℕ) → count_at l.uses n ≤ l.row-index;
}
