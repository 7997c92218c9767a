use Rattle.kfs_model.specs.Device.RawImage.{place_in, bytes_in}
use Rattle.kfs_image.specs.Codec.RawImages.{extent_row_of}
use Rattle.kfs_image.specs.Raw.Blocks.{placed_row, written_row}
use Rattle.kfs_image.proofs.RawLemmas.Pushed.{none_pushed, one_pushed, all_pushed}
use Rattle.kfs_image.proofs.raw.blocks.push_blocks.Goals as goal

pub loop-index-init : goal.loop-index-init
loop-index-init g c =
    let extent = extent_row_of c.args.extent.now in
    record {
      placed = none_pushed placed_row (place_in extent) c.args.rows.now.items extent.count;
      written = none_pushed written_row (bytes_in extent) c.args.rows.now.items extent.count;
    }

pub loop-index-preserved : goal.loop-index-preserved
loop-index-preserved g c =
    let extent = extent_row_of c.args.extent.now in
    record {
      placed = one_pushed placed_row (place_in extent) c.loop-index.rows.items c.push.new.self.items _ c.loop-index.index extent.count _ c.loop-index-test.true c.in_ok-push.ensures.items c.in_ok-block_row.ensures.placed c.loop-index.invariant.placed;
      written = one_pushed written_row (bytes_in extent) c.loop-index.rows.items c.push.new.self.items _ c.loop-index.index extent.count _ c.loop-index-test.true c.in_ok-push.ensures.items c.in_ok-block_row.ensures.written c.loop-index.invariant.written;
    }

pub returns-clause-placed : goal.returns-clause-placed
returns-clause-placed g c =
    let extent = extent_row_of c.args.extent.now in
    all_pushed placed_row (place_in extent) c.loop-index.rows.items c.loop-index.index extent.count _ c.loop-index-test.false c.loop-index.invariant.placed

pub returns-clause-written : goal.returns-clause-written
returns-clause-written g c =
    let extent = extent_row_of c.args.extent.now in
    all_pushed written_row (bytes_in extent) c.loop-index.rows.items c.loop-index.index extent.count _ c.loop-index-test.false c.loop-index.invariant.written
