-- The calls so far are made, and stand in the group. There is room for the rest.
use Rattle.std.proofs.Common.{◌≡◌, ◌≤◌, ◌+◌, length, map, take, vec_capacity}
use Rattle.std.specs.List.{sum_by}
use Rattle.kfs_kept.specs.Calls.Making.{AreMade}
use Rattle.kfs_kept.proofs.calls.making.Made.make_all.Given as goal

abbrev pub invariant-loop-bytes : goal.invariant-loop-bytes
invariant-loop-bytes g l = record {
  made : AreMade l.initial.desk (map (λ c. c.now) (take l.bytes-index l.calls)) l.self.answers.items l.self.group.items l.desk;
  short : length l.self.group.items ≤ sum_by (λ c. length c.now + 24) (take l.bytes-index l.calls);
  answers : length l.self.answers.items ≡ l.bytes-index;
  answers_room : vec_capacity l.self.answers ≡ vec_capacity l.initial.self.answers;
  room : vec_capacity l.initial.self.group ≤ vec_capacity l.self.group;
}
