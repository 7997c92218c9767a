use Rattle.std.proofs.Common.{None, unwrap_or, length, sym, ap, ◌∙◌}
use Rattle.kfs_image.proofs.TierLemmas.BlockTables.{get-blocks_of}
use Rattle.kfs_image.proofs.tier.blocks.TierBlocks.block.Goals as goal

pub returns-clause-whole : goal.returns-clause-whole
returns-clause-whole g c =
    ap length c.as_slice.ensures
    ∙ c.self.invariant.whole c.args.place c.in_ok-written.field-0.now
    (ap (λ slot. unwrap_or slot None) (get-blocks_of c.self.inside.slots.entries c.args.place) ∙ sym c.in_ok-written.ensures)
