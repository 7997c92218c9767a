use Rattle.std.proofs.Common.{◌≡◌, ◌++◌, map, drop}
use Rattle.kfs_image.specs.Released.{behind}
use Rattle.kfs_image.proofs.read.blocks_behind.Given as goal

abbrev pub invariant-loop-edit : goal.invariant-loop-edit
invariant-loop-edit g l = l.runs.items ++ map behind (drop l.edit-index l.edits) ≡ map behind l.edits
