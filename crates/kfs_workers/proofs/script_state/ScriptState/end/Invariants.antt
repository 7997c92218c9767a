-- What the hands left give back to what is left so far is what all hands give back.
use Rattle.std.proofs.Common.{◌≡◌, length, map, option_map}
use Rattle.std.specs.Vec.Iter.{into_iter_items, into_iter_len}
use Rattle.kfs_plan.specs.Judging.{submission_of}
use Rattle.kfs_workers.specs.Holding.{held_of}
use Rattle.kfs_workers.specs.Script.{all_returned}
use Rattle.kfs_workers.proofs.script_state.ScriptState.end.Given as goal

abbrev pub invariant-loop-hand : goal.invariant-loop-hand
invariant-loop-hand g l = record {
  left : all_returned (map (option_map held_of) (into_iter_items l.hand-iterator)) (map (option_map submission_of) l.left.items) ≡ all_returned (map (option_map held_of) (into_iter_items l.initial.hand-iterator)) (map (option_map submission_of) l.initial.left.items);
  count : into_iter_len l.hand-iterator ≡ length (into_iter_items l.hand-iterator);
}
