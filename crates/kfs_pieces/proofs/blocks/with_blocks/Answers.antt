use Rattle.std.proofs.Common.{◌≡◌, ◌<◌, ◌≤◌, max, arith, ◌+◌, ◌-◌, ◌++◌, sym, ap, ◌∙◌}
use Rattle.kfs_pieces.specs.TouchedBlocks.{counted}
use Rattle.kfs_pieces.specs.PieceBlocks.{blocks_in}
use Rattle.kfs_pieces.proofs.Counting.{none_new, some_new}
use Rattle.kfs_pieces.proofs.blocks.with_blocks.Goals as goal

pub returns-then-from-blocks-clause-counts : goal.returns-then-from-blocks-clause-counts
returns-then-from-blocks-clause-counts c rest =
    let b = c.in-Some.blocks in
    none_new c.args.count.next b.first b.last c.args.count.total rest b.order (let h : b.last < max c.args.count.next b.first = omega arith in h)
    ∙ ap (λ t. c.args.count.total + counted c.args.count.next (blocks_in t ++ rest)) (sym c.in-Some.is)

pub returns-clause-counts : goal.returns-clause-counts
returns-clause-counts c rest =
    let b = c.in-Some.blocks in
    let from : c.max-from.result ≡ max c.args.count.next b.first = omega arith in
    ap (λ n. c.args.count.total + (b.last + 1 - n) + counted (b.last + 1) rest) from
    ∙ some_new c.args.count.next b.first b.last c.args.count.total rest b.order (let h : max c.args.count.next b.first ≤ b.last = omega arith in h)
    ∙ ap (λ t. c.args.count.total + counted c.args.count.next (blocks_in t ++ rest)) (sym c.in-Some.is)
