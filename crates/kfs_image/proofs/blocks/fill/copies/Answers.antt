use Rattle.std.proofs.Common.{◌++◌, map, ap, ◌∙◌}
use Rattle.kfs_image.specs.Blocks.Fill.{new_part, row_part}
use Rattle.kfs_image.proofs.BlocksLemmas.FilledBlocks.{copied_row, copied_all}
use Rattle.kfs_image.proofs.blocks.fill.copies.Goals as goal

pub loop-row-init : goal.loop-row-init
loop-row-init g c = ap (λ blocks. map new_part blocks ++ map row_part c.args.rows.now) c.new-written.ensures.items

pub loop-row-preserved : goal.loop-row-preserved
loop-row-preserved g c =
    copied_row c.args.rows.now c.loop-row.row-index c.row-item.result _ c.loop-row.written.items c.push.new.self.items _ c.loop-row-test.true c.row-item.is c.in_ok-push.ensures.items
    (λ i. (c.row-item.result.place, (c.in_ok-extend_from_slice.ensures.items ∙ ap (λ bytes. bytes ++ c.as_slice.result.now) c.new-bytes.ensures.items ∙ c.as_slice.ensures.value) i)) c.loop-row.invariant

pub returns : goal.returns
returns g c = copied_all c.args.rows.now c.loop-row.row-index c.loop-row.written.items _ c.loop-row-test.false c.loop-row.invariant
