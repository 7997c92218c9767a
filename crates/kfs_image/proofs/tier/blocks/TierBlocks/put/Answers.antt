use Rattle.std.proofs.Common.{◌≡◌, length, Some, IsSome, sym, ap, subst, ◌∙◌, arith}
use Rattle.kfs_model.specs.Table.{get, insert}
use Rattle.kfs_image.specs.Tier.Blocks.{AreWhole}
use Rattle.kfs_image.specs.Tier.Slots.{blocks_of}
use Rattle.kfs_image.proofs.TierLemmas.BlockTables.{get-blocks_of, blocks_of-insert, AreWhole-insert}
use Rattle.kfs_image.proofs.tier.blocks.TierBlocks.put.Goals as goal

pub set_slot-requires : goal.set_slot-requires
set_slot-requires g c = subst IsSome (get-blocks_of c.self.inside.slots.entries c.args.place) (subst (λ blocks. IsSome (get blocks c.args.place)) (sym c.self.view_is) c.requires.room)

pub invariant_of-self : goal.invariant_of-self
invariant_of-self g c =
    subst AreWhole (sym (blocks_of-insert c.self.inside.slots c.set_slot.new.slots c.args.place (Some c.from_vec.result) c.set_slot.ensures.set))
    (AreWhole-insert (blocks_of c.self.inside.slots.entries) c.args.place c.self.invariant (Some c.from_vec.result)
    (λ bytes there. let same : bytes ≡ c.args.bytes.items = cc in omega (arith, ap length same, c.args.bytes.ok.0, c.requires.whole)))

pub returns-clause-table : goal.returns-clause-table
returns-clause-table g c =
    blocks_of-insert c.self.inside.slots c.set_slot.new.slots c.args.place (Some c.from_vec.result) c.set_slot.ensures.set
    ∙ ap (λ blocks. insert blocks c.args.place (Some c.from_vec.result)) c.self.view_is
    ∙ ap (λ bytes. insert c.args.self.now c.args.place (Some bytes)) c.from_vec.ensures
