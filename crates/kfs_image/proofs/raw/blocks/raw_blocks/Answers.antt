use Rattle.std.proofs.Common.{All, sym, ap, subst, ◌∙◌}
use Rattle.kfs_image.specs.Blocks.Blocks.{CanChange, changed}
use Rattle.kfs_image.specs.Raw.Blocks.{HasItsBlocks}
use Rattle.kfs_image.proofs.RawLemmas.RawBlocks.{have_blocks, can_fill, filled_are}
use Rattle.kfs_image.proofs.raw.blocks.raw_blocks.Goals as goal

pub block_rows-requires : goal.block_rows-requires
block_rows-requires g c = subst (All HasItsBlocks) (sym c.as_slice.ensures.value) (have_blocks c.args.raw.now c.requires.spelled c.requires.well_formed)

pub moved_edits-requires : goal.moved_edits-requires
moved_edits-requires g c =
    can_fill c.args.raw.now c.requires.spelled c.requires.well_formed c.in_ok-rows.rows.items c.as_slice.result.now c.as_slice.ensures.value c.in_ok-rows.ensures.placed c.in_ok-rows.ensures.written
    c.in_ok-blocks.blocks c.in_ok-blocks.ensures

pub change-requires : goal.change-requires
change-requires g c =
    let edits = c.in_ok-places.field-0 in
    subst (λ places. CanChange c.in_ok-blocks.blocks places edits.written.items) (sym c.as_slice-2.ensures.value) c.in_ok-places.ensures.can

pub returns : goal.returns
returns g c =
    let edits = c.in_ok-places.field-0 in
    c.in_ok-change.ensures.ok
    ∙ ap (λ places. changed places edits.written.items c.in_ok-blocks.blocks) c.as_slice-2.ensures.value
    ∙ c.in_ok-places.ensures.fill
    ∙ filled_are c.args.raw.now c.requires.spelled c.requires.well_formed c.in_ok-rows.rows.items c.as_slice.result.now c.as_slice.ensures.value c.in_ok-rows.ensures.placed c.in_ok-rows.ensures.written
    c.in_ok-blocks.blocks c.in_ok-blocks.ensures
