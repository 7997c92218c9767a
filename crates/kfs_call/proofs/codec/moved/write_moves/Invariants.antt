use Rattle.std.proofs.Common.{◌≡◌, ◌++◌, take}
use Rattle.std.specs.List.{flat_map}
use Rattle.kfs_call.specs.Call.{move_bytes}
use Rattle.kfs_call.proofs.codec.moved.write_moves.Given as goal

abbrev pub invariant-loop-one : goal.invariant-loop-one
invariant-loop-one g l = l.out.items ≡ l.fn.out.items ++ flat_map move_bytes (take l.one-index l.moves)
