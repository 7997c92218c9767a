-- Those who are hired have the first shares; there is room for the others.
use Rattle.std.proofs.Common.{◌≡◌, ◌+◌, ◌≤◌, ◌++◌, [], length, map, All, vec_capacity}
use Rattle.std.specs.Vec.Iter.{into_iter_items, into_iter_len}
use Rattle.kfs_shared.specs.Passes.{IsPassOf, seen, own}
use Rattle.kfs_shared.proofs.crew.crew.hire.Given as goal

abbrev pub invariant-loop-duty : goal.invariant-loop-duty
invariant-loop-duty g l = record {
  duties : into_iter_items l.initial.duty-iterator ≡ map (λ w. w.duty) l.workers.items ++ into_iter_items l.duty-iterator;
  room : length l.workers.items + length (into_iter_items l.duty-iterator) ≤ vec_capacity l.workers;
  count : into_iter_len l.duty-iterator ≡ length (into_iter_items l.duty-iterator);
  pass : IsPassOf l.shared l.first × (seen l.first ≡ seen l.initial.first) × (own l.first ≡ own l.initial.first);
  hired : All (λ w. IsPassOf l.shared w.pass × (own w.pass ≡ []) × (seen w.pass ≡ seen l.initial.first)) l.workers.items;
}
