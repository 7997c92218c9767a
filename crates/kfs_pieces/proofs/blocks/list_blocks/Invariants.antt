use Rattle.std.proofs.Common.{◌≡◌, ◌++◌, ◌-◌}
use Rattle.kfs_model.specs.Placement.{numbers_from}
use Rattle.kfs_pieces.proofs.blocks.list_blocks.Given as goal

abbrev pub invariant-loop-block : goal.invariant-loop-block
invariant-loop-block g l = l.out.items ++ numbers_from l.block (l.block-end - l.block) ≡ l.fn.out.items ++ numbers_from l.initial.block (l.block-end - l.initial.block)
