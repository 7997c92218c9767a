use Rattle.std.proofs.Common.{◌∙◌}
use Rattle.kfs_image_nodes.proofs.RowsAfter.{left_here, left_beside, left_end}
use Rattle.kfs_image_nodes.proofs.edits.by_rows.Goals as goal
use Rattle.kfs_image_nodes.proofs.edits.by_rows.Goals.{then-row-number, else-row-number}

pub loop-row-preserved : goal.loop-row-preserved
loop-row-preserved c = elim c.if-row-number.branch [
  | then-row-number w ↦ w.found-is ∙ left_here c.args.rows.now c.loop-row.row-index _ c.args.number c.args.before c.loop-row-test.true w.if-row-number.true
  | else-row-number w ↦ w.found-is ∙ left_beside c.args.rows.now c.loop-row.row-index _ c.args.number c.args.before c.loop-row-test.true w.if-row-number.false c.loop-row.found c.loop-row.invariant
]

pub returns : goal.returns
returns c = left_end c.args.rows.now c.loop-row.row-index c.args.number c.args.before c.loop-row.found c.loop-row-test.false c.loop-row.invariant
