use Rattle.std.proofs.Common.{take}
use Rattle.kfs_migrate.specs.Applied.{AreEditsOf}
use Rattle.kfs_migrate.proofs.apply.edits_of.Given as goal

abbrev pub invariant-loop-m : goal.invariant-loop-m
invariant-loop-m g l = AreEditsOf l.image (take l.m-index l.moves) l.edits.items
