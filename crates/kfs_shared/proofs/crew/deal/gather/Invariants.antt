-- What isn't back yet lies with the workers.
use Rattle.std.proofs.Common.{◌≡◌, ◌+◌, ◌++◌, ◌<◌, List, length, map, vec_capacity}
use Rattle.kfs_shared.specs.Crew.Shares.{dealt}
use Rattle.kfs_shared.proofs.crew.deal.gather.Given as goal

abbrev pub decreases-loop-number : goal.decreases-loop-number
decreases-loop-number g l = l.number

abbrev pub invariant-loop-number : goal.invariant-loop-number
invariant-loop-number g l = record {
  lie : (rest : List _) × (map (λ w. w.duty.items) l.workers ≡ dealt l.shares rest) × (length rest ≡ l.number) × (map (λ w. w.duty.items) l.initial.workers ≡ dealt l.shares (l.tasks.items ++ rest));
  all : length l.tasks.items + l.number ≡ l.count;
  capacity : vec_capacity l.tasks ≡ vec_capacity l.initial.tasks;
  some : (l.shares ≡ length l.initial.workers) × (0 < l.shares);
}
