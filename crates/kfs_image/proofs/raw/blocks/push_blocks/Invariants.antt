use Rattle.std.proofs.Common.{◌≡◌, ◌-◌, ◌++◌, map}
use Rattle.kfs_model.specs.Placement.{numbers_from}
use Rattle.kfs_model.specs.Device.RawImage.{place_in, bytes_in, places_in, blocks_in}
use Rattle.kfs_image.specs.Codec.RawImages.{extent_row_of}
use Rattle.kfs_image.specs.Raw.Blocks.{placed_row, written_row}
use Rattle.kfs_image.proofs.raw.blocks.push_blocks.Given as goal

abbrev pub invariant-loop-index : goal.invariant-loop-index
invariant-loop-index g l =
    let extent = extent_row_of l.extent in
    record {
      placed : map placed_row l.rows.items ++ map (place_in extent) (numbers_from l.index (extent.count - l.index)) ≡ map placed_row l.fn.rows.items ++ places_in extent;
      written : map written_row l.rows.items ++ map (bytes_in extent) (numbers_from l.index (extent.count - l.index)) ≡ map written_row l.fn.rows.items ++ blocks_in extent;
    }
