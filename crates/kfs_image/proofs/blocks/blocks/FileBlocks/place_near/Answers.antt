use Rattle.std.proofs.Common.{sym, ap, ◌∙◌}
use Rattle.kfs_model.specs.Table.{numbers, pairs, get}
use Rattle.kfs_maps.proofs.ChunksLemmas.Tables.{get-table}
use Rattle.kfs_image.specs.Blocks.Blocks.{BlocksShown}
use Rattle.kfs_image.proofs.blocks.blocks.FileBlocks.place_near.Goals as goal

pub returns : goal.returns
returns g c =
    c.copied.ensures ∙ c.get_near.ensures ∙ sym (get-table (pairs numbers numbers) c.self.inside.placement (c.args.number, c.args.block))
    ∙ ap (λ (b : BlocksShown). get b.placement (c.args.number, c.args.block)) c.self.view_is
