use Rattle.std.proofs.Common.{◌-◌, ◌/◌, ◌≤◌, length}
use Rattle.kfs_image.proofs.TierLemmas.MarkedBits.{HasPassed}
use Rattle.kfs_image.proofs.tier.bits.next_clear.Given as goal

abbrev pub invariant-loop-index : goal.invariant-loop-index
invariant-loop-index l = record {
  begun : l.from / 64 ≤ l.index;
  passed : HasPassed l.words l.from l.index l.passed;
}

abbrev pub decreases-loop-index : goal.decreases-loop-index
decreases-loop-index l = length l.words - l.index
