-- What was taken from the jobs stands before what is still to come.
use Rattle.std.proofs.Common.{◌≡◌, ◌+◌, ◌++◌, ◌≤◌, length, map, vec_capacity}
use Rattle.std.specs.List.{flat_map}
use Rattle.std.specs.Vec.Iter.{into_iter_items, into_iter_len}
use Rattle.kfs_shared.specs.Batch.Settled.{left_in, reply_in}
use Rattle.kfs_shared.proofs.batch.settle.settle.Given as goal

abbrev pub invariant-loop-job : goal.invariant-loop-job
invariant-loop-job g l = record {
  replies : map (λ job. reply_in job.hand) (into_iter_items l.initial.job-iterator) ≡ l.replies.items ++ map (λ job. reply_in job.hand) (into_iter_items l.job-iterator);
  left : flat_map (λ job. left_in job.number job.hand) (into_iter_items l.initial.job-iterator) ≡ l.left.items ++ flat_map (λ job. left_in job.number job.hand) (into_iter_items l.job-iterator);
  rooms : (length l.replies.items + length (into_iter_items l.job-iterator) ≤ vec_capacity l.replies) × (length l.left.items + length (into_iter_items l.job-iterator) ≤ vec_capacity l.left);
  count : into_iter_len l.job-iterator ≡ length (into_iter_items l.job-iterator);
}
