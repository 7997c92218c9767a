-- Each call so far is short enough, and the total is theirs.
use Rattle.std.proofs.Common.{◌≡◌, ◌+◌, ◌<◌, ◌^◌, All, length, take}
use Rattle.std.specs.List.{sum_by}
use Rattle.kfs_kept.proofs.calls.making.room_for.Given as goal

abbrev pub invariant-loop-bytes : goal.invariant-loop-bytes
invariant-loop-bytes l = record {
  short : All (λ c. length c.now < 2 ^ 32) (take l.bytes-index l.calls);
  sum : l.total ≡ sum_by (λ c. length c.now + 24) (take l.bytes-index l.calls);
  within : l.total < 2 ^ 32;
}
