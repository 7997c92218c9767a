use Rattle.std.proofs.Common.{◌≡◌, ◌++◌, take}
use Rattle.std.specs.List.{flat_map}
use Rattle.kfs_model.specs.Spelling.{number32}
use Rattle.kfs_call.proofs.codec.groups.write_each.Given as goal

abbrev pub invariant-loop-group : goal.invariant-loop-group
invariant-loop-group g l = l.out.items ≡ l.fn.out.items ++ flat_map number32 (take l.group-index l.groups)
