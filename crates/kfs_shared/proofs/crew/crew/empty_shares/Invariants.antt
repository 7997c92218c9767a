use Rattle.std.proofs.Common.{◌≡◌, ◌≤◌, [], map, replicate, All, vec_capacity}
use Rattle.kfs_shared.proofs.crew.crew.empty_shares.Given as goal

abbrev pub invariant-loop : goal.invariant-loop
invariant-loop g l = record {
  empty : map (λ share. share.items) l.shares.items ≡ replicate l.counter [];
  room : All (λ share. l.room ≤ vec_capacity share) l.shares.items;
}
