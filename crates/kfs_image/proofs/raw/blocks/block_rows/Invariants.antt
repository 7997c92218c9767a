use Rattle.std.proofs.Common.{◌≡◌, ◌++◌, map, drop}
use Rattle.std.specs.List.{flat_map}
use Rattle.kfs_model.specs.Device.RawImage.{places_in, blocks_in}
use Rattle.kfs_image.specs.Codec.RawImages.{extent_row_of}
use Rattle.kfs_image.specs.Raw.Blocks.{placed_row, written_row}
use Rattle.kfs_image.proofs.raw.blocks.block_rows.Given as goal

abbrev pub invariant-loop-extent : goal.invariant-loop-extent
invariant-loop-extent g l = record {
  placed : map placed_row l.rows.items ++ flat_map (λ e. places_in (extent_row_of e)) (drop l.extent-index l.extents) ≡ flat_map (λ e. places_in (extent_row_of e)) l.extents;
  written : map written_row l.rows.items ++ flat_map (λ e. blocks_in (extent_row_of e)) (drop l.extent-index l.extents) ≡ flat_map (λ e. blocks_in (extent_row_of e)) l.extents;
}
