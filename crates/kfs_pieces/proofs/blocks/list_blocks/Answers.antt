use Rattle.std.proofs.Common.{◌≡◌, ◌++◌, ◌+◌, ◌-◌, ◌≤◌, max, sym, ap, ◌∙◌, arith}
use Rattle.kfs_model.specs.Placement.{numbers_from}
use Rattle.kfs_pieces.specs.BlockLists.{listed}
use Rattle.kfs_pieces.specs.PieceBlocks.{blocks_in}
use Rattle.kfs_pieces.proofs.ListedBlocks.{number_pushed, range_listed}
use Rattle.kfs_pieces.proofs.blocks.list_blocks.Goals as goal

pub loop-block-preserved : goal.loop-block-preserved
loop-block-preserved g c = number_pushed c.loop-block.out.items _ _ c.loop-block.block (c.in-Some.blocks.last + 1) c.loop-block-test.true c.in_ok-push.ensures.items c.loop-block.invariant

pub returns-clause-lists : goal.returns-clause-lists
returns-clause-lists g c rest =
    let b = c.in-Some.blocks in
    let later : c.max.result ≡ max c.args.next (b.last + 1) = omega arith in
    let from : c.max-block.result ≡ max b.first c.args.next = omega arith in
    ap (λ n. c.loop-block.out.items ++ listed n rest) later
    ∙ range_listed c.args.out.now.items c.loop-block.out.items c.args.next c.loop-block.block b.first b.last (let over : b.last + 1 ≤ c.loop-block.block = omega arith in over)
    (c.loop-block.invariant ∙ ap (λ n. c.args.out.now.items ++ numbers_from n (b.last + 1 - n)) from) rest
    ∙ ap (λ t. c.args.out.now.items ++ listed c.args.next (blocks_in t ++ rest)) (sym c.in-Some.is)
