use Rattle.std.proofs.Common.{sym, ap, subst, ◌∙◌}
use Rattle.kfs_model.specs.Table.{remove}
use Rattle.kfs_image.specs.Tier.Blocks.{AreWhole}
use Rattle.kfs_image.specs.Tier.Slots.{blocks_of}
use Rattle.kfs_image.proofs.TierLemmas.BlockTables.{blocks_of-remove, AreWhole-remove}
use Rattle.kfs_image.proofs.tier.blocks.TierBlocks.forget.Goals as goal

pub invariant_of-self : goal.invariant_of-self
invariant_of-self g c =
    subst AreWhole (sym (blocks_of-remove c.self.inside.slots c.remove_slot.new.slots c.args.place c.remove_slot.ensures))
    (AreWhole-remove (blocks_of c.self.inside.slots.entries) c.args.place c.self.invariant)

pub returns : goal.returns
returns g c =
    blocks_of-remove c.self.inside.slots c.remove_slot.new.slots c.args.place c.remove_slot.ensures
    ∙ ap (λ blocks. remove blocks c.args.place) c.self.view_is
