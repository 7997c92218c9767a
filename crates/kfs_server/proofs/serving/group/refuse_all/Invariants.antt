use Rattle.std.proofs.Common.{◌≡◌, ◌≤◌, map, take, vec_len, vec_capacity}
use Rattle.kfs_server.specs.Serving.Group.{refused_for_memory}
use Rattle.kfs_server.proofs.serving.group.refuse_all.Given as goal

abbrev pub invariant-loop-incoming : goal.invariant-loop-incoming
invariant-loop-incoming g l = record {
  refused : l.replies.items ≡ map refused_for_memory (take l.incoming-index l.group);
  len : vec_len l.replies ≤ l.incoming-index;
  capacity : vec_capacity l.replies ≡ vec_capacity l.fn.replies;
}
