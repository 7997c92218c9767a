use Rattle.std.proofs.Common.{ap, subst, ◌∙◌}
use Rattle.std.proofs.lemmas.Result.{on_ok_weaker}
use Rattle.kfs_image.specs.Tier.Blocks.{with_room, KeepsBlocks}
use Rattle.kfs_image.specs.Tier.Slots.{blocks_of}
use Rattle.kfs_image.proofs.TierLemmas.BlockTables.{blocks_of-with_room, KeepsBlocks-after, AreWhole-kept}
use Rattle.kfs_image.proofs.tier.blocks.TierBlocks.reserve.Goals as goal

pub invariant_of-self : goal.invariant_of-self
invariant_of-self g c =
    AreWhole-kept (blocks_of c.self.inside.slots.entries) (blocks_of c.make_slot.new.slots.entries)
    (KeepsBlocks-after c.make_slot.result c.self.inside.slots c.make_slot.new.slots c.args.place c.make_slot.ensures.ok c.make_slot.ensures.err) c.self.invariant

pub returns-clause-ok : goal.returns-clause-ok
returns-clause-ok g c =
    on_ok_weaker c.make_slot.result
    (λ made. blocks_of-with_room c.self.inside.slots c.make_slot.new.slots c.args.place made ∙ ap (λ blocks. with_room blocks c.args.place) c.self.view_is)
    c.make_slot.ensures.ok

pub returns-clause-blocks : goal.returns-clause-blocks
returns-clause-blocks g c =
    subst (λ blocks. KeepsBlocks blocks (blocks_of c.make_slot.new.slots.entries)) c.self.view_is
    (KeepsBlocks-after c.make_slot.result c.self.inside.slots c.make_slot.new.slots c.args.place c.make_slot.ensures.ok c.make_slot.ensures.err)
