use Rattle.std.proofs.Common.{length, ap, ◌∙◌}
use Rattle.kfs_model.specs.Table.{numbers, pairs}
use Rattle.kfs_maps.specs.Chunks.Tables.{table}
use Rattle.kfs_image.specs.Tier.Unused.{unused_places}
use Rattle.kfs_image.proofs.TierLemmas.UnusedPlaces.{CountsUnused-holds}
use Rattle.kfs_image.specs.Blocks.Blocks.{BlocksShown}
use Rattle.kfs_image.proofs.blocks.blocks.FileBlocks.free.Goals as goal

pub returns : goal.returns
returns g c =
    c.free.ensures ∙ CountsUnused-holds (table (pairs numbers numbers) c.self.inside.placement) c.self.inside.tiers c.self.invariant.unused c.args.tier
    ∙ ap (λ (b : BlocksShown). length (unused_places b.sizes b.placement c.args.tier)) c.self.view_is
