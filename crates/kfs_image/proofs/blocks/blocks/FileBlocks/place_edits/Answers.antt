use Rattle.std.proofs.Common.{◌≡◌, subst}
use Rattle.std.specs.Prelude.{IfOk}
use Rattle.kfs_maps.specs.Chunks.Tables.{table_after}
use Rattle.kfs_image.specs.Blocks.Blocks.{BlocksShown}
use Rattle.kfs_image.specs.Blocks.Fill.{placement_after}
use Rattle.kfs_image.proofs.blocks.blocks.FileBlocks.place_edits.Goals as goal

pub returns-clause-placed : goal.returns-clause-placed
returns-clause-placed g c =
    subst (λ (b : BlocksShown). IfOk c.fill_edits.result (λ places. table_after b.placement places.items ≡ placement_after c.args.released.now c.args.rows.now b.placement)) c.self.view_is c.fill_edits.ensures.placed
