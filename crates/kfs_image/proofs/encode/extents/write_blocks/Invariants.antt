use Rattle.std.proofs.Common.{◌≡◌, ◌*◌, ◌++◌}
use Rattle.kfs_model.specs.Limits.{block_size}
use Rattle.kfs_model.specs.Table.{get}
use Rattle.kfs_model.specs.Tree.{content_of}
use Rattle.kfs_model.specs.Device.ShownTree.{shown_tree}
use Rattle.kfs_image.specs.Encode.Runs.{part_of}
use Rattle.kfs_image.proofs.encode.extents.write_blocks.Given as goal

-- the blocks before this one are written
abbrev pub invariant-loop-index : goal.invariant-loop-index
invariant-loop-index g l = l.out.items ≡ l.fn.out.items ++ part_of (content_of (get (shown_tree l.image).nodes l.run.number)) (l.run.block * block_size) (l.index * block_size)
