use Rattle.std.proofs.Common.{◌≡◌, ℕ, ◌+◌, ◌≤◌, length, map}
use Rattle.kfs_model.specs.Table.{numbers}
use Rattle.kfs_image_nodes.specs.SortedRows.{dir_of, tallied_at}
use Rattle.kfs_image_nodes.proofs.HowOften.{held, often}
use Rattle.kfs_image_nodes.proofs.sorted_rows.directory_counts.Given as goal

-- what is set, the run so far, and the uplinks that are left are all uplinks
abbrev pub invariant-loop-uplink : goal.invariant-loop-uplink
invariant-loop-uplink g l = record {
  within : l.run + length l.left ≤ length l.uplinks;
  counted : (d : ℕ) → tallied_at l.tally.latest.entries d + held numbers l.run (map dir_of l.left) d + often numbers d (map dir_of l.left) ≡ often numbers d (map dir_of l.uplinks);
}

abbrev pub decreases-loop-uplink : goal.decreases-loop-uplink
decreases-loop-uplink g l = length l.left
