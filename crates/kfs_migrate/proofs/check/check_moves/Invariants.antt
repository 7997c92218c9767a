use Rattle.std.proofs.Common.{◌≡◌, None, take}
use Rattle.kfs_model.specs.Migration.{source}
use Rattle.kfs_migrate.proofs.MoveSets.{AreKeysOf, target_key}
use Rattle.kfs_migrate.proofs.MoveTests.{first_fault}
use Rattle.kfs_migrate.proofs.check.check_moves.Given as goal

abbrev pub invariant-loop-index : goal.invariant-loop-index
invariant-loop-index g l = record {
  first : first_fault l.image.sizes l.image.placement (take l.index l.moves) ≡ None;
  sources : AreKeysOf source (take l.index l.moves) l.sources;
  targets : AreKeysOf target_key (take l.index l.moves) l.targets;
}
