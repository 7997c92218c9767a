use Rattle.std.proofs.Common.{sym, ap, subst, ◌∙◌}
use Rattle.kfs_image.specs.Tier.Blocks.{without_room, KeepsBlocks, AreWhole}
use Rattle.kfs_image.specs.Tier.Slots.{blocks_of}
use Rattle.kfs_image.proofs.TierLemmas.BlockTables.{blocks_of-without_room, KeepsBlocks-without_room, AreWhole-kept}
use Rattle.kfs_image.proofs.tier.blocks.TierBlocks.release.Goals as goal

pub invariant_of-self : goal.invariant_of-self
invariant_of-self g c =
    let old = blocks_of c.self.inside.slots.entries in
    subst AreWhole (sym (blocks_of-without_room c.self.inside.slots c.remove_empty.new.slots c.args.place c.remove_empty.ensures.empty c.remove_empty.ensures.full))
    (AreWhole-kept old (without_room old c.args.place) (KeepsBlocks-without_room old c.args.place) c.self.invariant)

pub returns-clause-table : goal.returns-clause-table
returns-clause-table g c =
    blocks_of-without_room c.self.inside.slots c.remove_empty.new.slots c.args.place c.remove_empty.ensures.empty c.remove_empty.ensures.full
    ∙ ap (λ blocks. without_room blocks c.args.place) c.self.view_is

pub returns-clause-blocks : goal.returns-clause-blocks
returns-clause-blocks g c =
    subst (KeepsBlocks c.args.self.now)
    (sym (blocks_of-without_room c.self.inside.slots c.remove_empty.new.slots c.args.place c.remove_empty.ensures.empty c.remove_empty.ensures.full ∙ ap (λ blocks. without_room blocks c.args.place) c.self.view_is))
    (KeepsBlocks-without_room c.args.self.now c.args.place)
