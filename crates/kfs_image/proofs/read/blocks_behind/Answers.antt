use Rattle.std.proofs.Common.{◌++◌, map, ap}
use Rattle.kfs_image.specs.Released.{behind}
use Rattle.kfs_image.proofs.ReleasedBlocks.{behind_one, behind_all}
use Rattle.kfs_image.proofs.read.blocks_behind.Goals as goal

pub loop-edit-init : goal.loop-edit-init
loop-edit-init g c = ap (λ runs. runs ++ map behind c.args.edits.now) c.in_ok-runs.ensures.items

pub loop-edit-preserved : goal.loop-edit-preserved
loop-edit-preserved g c = behind_one c.args.edits.now c.loop-edit.edit-index _ _ c.loop-edit.runs.items c.push.new.self.items c.loop-edit-test.true c.in_ok-push.ensures.items c.block_count.ensures c.loop-edit.invariant

pub returns : goal.returns
returns g c = behind_all c.args.edits.now c.loop-edit.edit-index c.loop-edit.runs.items c.loop-edit-test.false c.loop-edit.invariant
