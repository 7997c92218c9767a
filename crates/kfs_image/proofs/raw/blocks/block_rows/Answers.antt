use Rattle.std.proofs.Common.{◌++◌, map, sym, ap, subst}
use Rattle.std.specs.List.{flat_map}
use Rattle.kfs_model.specs.Device.RawImage.{places_in, blocks_in}
use Rattle.kfs_image.specs.Codec.RawImages.{extent_row_of}
use Rattle.kfs_image.specs.Raw.Blocks.{HasItsBlocks, placed_row, written_row}
use Rattle.kfs_image.proofs.RawLemmas.Pushed.{one_listed, all_listed}
use Rattle.kfs_image.proofs.raw.blocks.block_rows.Goals as goal

pub loop-extent-init : goal.loop-extent-init
loop-extent-init g c = record {
  placed = ap (λ rows. map placed_row rows ++ flat_map (λ e. places_in (extent_row_of e)) c.args.extents.now) c.new-rows.ensures.items;
  written = ap (λ rows. map written_row rows ++ flat_map (λ e. blocks_in (extent_row_of e)) c.args.extents.now) c.new-rows.ensures.items;
}

pub push_blocks-requires : goal.push_blocks-requires
push_blocks-requires g c = subst HasItsBlocks (sym c.extent-item.is) (c.requires c.loop-extent.extent-index c.extent-item.result c.loop-extent-test.true)

pub loop-extent-preserved : goal.loop-extent-preserved
loop-extent-preserved g c = record {
  placed = one_listed placed_row (λ e. places_in (extent_row_of e)) c.loop-extent.rows.items c.push_blocks.new.rows.items c.args.extents.now c.loop-extent.extent-index c.extent-item.result _ c.loop-extent-test.true c.extent-item.is c.in_ok-push_blocks.ensures.placed c.loop-extent.invariant.placed;
  written = one_listed written_row (λ e. blocks_in (extent_row_of e)) c.loop-extent.rows.items c.push_blocks.new.rows.items c.args.extents.now c.loop-extent.extent-index c.extent-item.result _ c.loop-extent-test.true c.extent-item.is c.in_ok-push_blocks.ensures.written c.loop-extent.invariant.written;
}

pub returns-clause-placed : goal.returns-clause-placed
returns-clause-placed g c = all_listed placed_row (λ e. places_in (extent_row_of e)) c.loop-extent.rows.items c.args.extents.now c.loop-extent.extent-index _ c.loop-extent-test.false c.loop-extent.invariant.placed

pub returns-clause-written : goal.returns-clause-written
returns-clause-written g c = all_listed written_row (λ e. blocks_in (extent_row_of e)) c.loop-extent.rows.items c.args.extents.now c.loop-extent.extent-index _ c.loop-extent-test.false c.loop-extent.invariant.written
