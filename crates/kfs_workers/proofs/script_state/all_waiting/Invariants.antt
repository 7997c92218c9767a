-- What was put down stands before what is still to come, for which there is room.
use Rattle.std.proofs.Common.{◌≡◌, ◌≤◌, ◌++◌, length, map, Some}
use Rattle.std.specs.Vec.Iter.{into_iter_items, into_iter_len}
use Rattle.kfs_types.specs.Room.{spare_of}
use Rattle.kfs_workers.proofs.script_state.all_waiting.Given as goal

abbrev pub invariant-loop-submission : goal.invariant-loop-submission
invariant-loop-submission g l = record {
  items : map Some (into_iter_items l.initial.submission-iterator) ≡ l.waiting.items ++ map Some (into_iter_items l.submission-iterator);
  room : length (into_iter_items l.submission-iterator) ≤ spare_of l.waiting;
  count : into_iter_len l.submission-iterator ≡ length (into_iter_items l.submission-iterator);
}
