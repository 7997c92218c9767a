use Rattle.std.proofs.Common.{◌≡◌, ◌++◌, map, drop}
use Rattle.kfs_desk.proofs.fill.fill.add_written.Given as goal

abbrev pub invariant-loop-block : goal.invariant-loop-block
invariant-loop-block g l = l.out.items ++ map (λ block. (l.number, block)) (drop l.block-index l.block-items) ≡ l.fn.out.items ++ map (λ block. (l.number, block)) l.block-items
