-- What is gone from the tasks lies in the shares.
use Rattle.std.proofs.Common.{◌≡◌, ◌++◌, ◌<◌, List, length, map, vec_capacity}
use Rattle.kfs_shared.specs.Crew.Shares.{dealt}
use Rattle.kfs_shared.proofs.crew.deal.deal.Given as goal

abbrev pub decreases-loop-task : goal.decreases-loop-task
decreases-loop-task g l = length l.tasks.items

abbrev pub invariant-loop-task : goal.invariant-loop-task
invariant-loop-task g l = record {
  lie : (done : List _) × (l.initial.tasks.items ≡ l.tasks.items ++ done) × (map (λ share. share.items) l.shares ≡ dealt l.count done) × (l.number ≡ length done);
  rooms : map vec_capacity l.shares ≡ map vec_capacity l.initial.shares;
  capacity : vec_capacity l.tasks ≡ vec_capacity l.initial.tasks;
  some : (l.count ≡ length l.initial.shares) × (0 < l.count);
}
