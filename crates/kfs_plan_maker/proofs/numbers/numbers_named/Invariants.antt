use Rattle.std.proofs.Common.{◌≡◌, take}
use Rattle.std.specs.List.{flat_map}
use Rattle.kfs_model.specs.Tree.{target}
use Rattle.kfs_plan_maker.specs.AskedLeases.{named_in}
use Rattle.kfs_plan_maker.proofs.numbers.numbers_named.Given as goal

abbrev pub invariant-loop-entry : goal.invariant-loop-entry
invariant-loop-entry g l = l.numbers.items ≡ flat_map (named_in (target l.shape.names)) (take l.entry-index l.entries)
