-- The jobs that are made, and those to be made of what is left.
use Rattle.std.proofs.Common.{◌≡◌, ◌+◌, ◌++◌, ◌^◌, ◌<◌, ◌≤◌, length, map, vec_capacity}
use Rattle.std.specs.Vec.Iter.{into_iter_items, into_iter_len}
use Rattle.kfs_shared.specs.Batch.Settled.{numbered}
use Rattle.kfs_shared.proofs.batch.settle.jobs_of.Given as goal

abbrev pub invariant-loop-submission : goal.invariant-loop-submission
invariant-loop-submission g l = record {
  made : numbered 0 (into_iter_items l.initial.submission-iterator) ≡ map (λ job. (job.number, job.hand)) l.jobs.items ++ numbered l.number (into_iter_items l.submission-iterator);
  few : l.number + length (into_iter_items l.submission-iterator) < 2 ^ 32;
  room : length l.jobs.items + length (into_iter_items l.submission-iterator) ≤ vec_capacity l.jobs;
  capacity : vec_capacity l.jobs ≡ vec_capacity l.fn.room;
  count : into_iter_len l.submission-iterator ≡ length (into_iter_items l.submission-iterator);
}
