use Rattle.std.proofs.Common.{◌≡◌, ◌≤◌, vec_len, vec_capacity}
use Rattle.kfs_server.proofs.ServingLemmas.Merged.{IsMergedTo}
use Rattle.kfs_server.proofs.serving.merging.merge.Given as goal

abbrev pub invariant-loop-one : goal.invariant-loop-one
invariant-loop-one g l = record {
  merged : IsMergedTo l.decided l.answers l.one-index l.rest l.replies.items;
  room : vec_len l.replies ≤ l.one-index;
  capacity : vec_capacity l.replies ≡ vec_capacity l.fn.replies;
}
