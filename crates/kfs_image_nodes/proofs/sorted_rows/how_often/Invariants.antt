use Rattle.std.proofs.Common.{◌≡◌, ℕ, ◌+◌, ◌<◌, ◌≤◌, Some, None, length}
use Rattle.std.specs.Prelude.{unwrap_or}
use Rattle.std.specs.List.Sorted.{IsSorted}
use Rattle.kfs_maps.specs.Chunks.Edits.{edited, KeysAscend}
use Rattle.kfs_image_nodes.specs.Indexes.{by_node}
use Rattle.kfs_image_nodes.proofs.HowOften.{held, often, AreBelow}
use Rattle.kfs_image_nodes.proofs.sorted_rows.how_often.Given as goal

-- what the edits say, the run so far, and the uplinks that are left are all uplinks
abbrev pub invariant-loop-uplink : goal.invariant-loop-uplink
invariant-loop-uplink g l = record {
  within : l.run + length l.left ≤ length l.uplinks;
  sorted : IsSorted by_node.compare l.left;
  ascend : KeysAscend by_node.compare l.edits.items;
  below : AreBelow by_node l.edits.items l.left;
  positive : (q : ℕ × ℕ) (count : ℕ) → edited by_node.compare l.edits.items q None ≡ Some count → 0 < count;
  counted : (q : ℕ × ℕ) → unwrap_or (edited by_node.compare l.edits.items q None) 0 + held by_node l.run l.left q + often by_node q l.left ≡ often by_node q l.uplinks;
}

abbrev pub decreases-loop-uplink : goal.decreases-loop-uplink
decreases-loop-uplink g l = length l.left
