use Rattle.std.proofs.Common.{◌∙◌, Some}
use Rattle.kfs_model.specs.Table.{pairs, numbers}
use Rattle.kfs_maps.specs.Chunks.Tables.{table}
use Rattle.kfs_maps.proofs.ChunksLemmas.Overlays.{overlaid_set, table_after_said}
use Rattle.kfs_image.specs.Blocks.Fill.{mapped_by}
use Rattle.kfs_image.specs.Blocks.Walks.{seen}
use Rattle.kfs_image.proofs.BlocksLemmas.FilledBlocks.{mapped_row, mapped_all}
use Rattle.kfs_image.proofs.blocks.fill.edits_over.Goals as goal

pub loop-row-preserved : goal.loop-row-preserved
loop-row-preserved g c =
    let row = c.row-item.result in
    mapped_row c.args.rows.now c.loop-row.row-index row (seen c.loop-row.overlay c.args.placement.now) (seen c.set.new.self c.args.placement.now)
    (mapped_by c.args.rows.now (seen c.args.overlay c.args.placement.now)) c.loop-row-test.true c.row-item.is
    (overlaid_set (table (pairs numbers numbers) c.args.placement.now) c.loop-row.overlay.latest c.set.new.self.latest (row.number, row.block) (Some row.place) c.in_ok-set.ensures) c.loop-row.invariant

pub returns-clause-placed : goal.returns-clause-placed
returns-clause-placed g c =
    table_after_said (table (pairs numbers numbers) c.args.placement.now) c.in_ok-edits.edits.items c.loop-row.overlay.latest c.in_ok-edits.ensures.said
    ∙ mapped_all c.args.rows.now c.loop-row.row-index (seen c.loop-row.overlay c.args.placement.now) _ c.loop-row-test.false c.loop-row.invariant
