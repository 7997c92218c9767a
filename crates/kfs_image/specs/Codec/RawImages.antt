-- The code's raw images as values of the definitions.
use Rattle.std.specs.Prelude.{map}
use Rattle.kfs_image.specs.declared.codec.raw.RawNode.{RawNode as CodeNodeRow}
use Rattle.kfs_image.specs.declared.codec.raw.ExtentRow.{ExtentRow as CodeExtentRow}
use Rattle.kfs_image.specs.declared.codec.raw.RawImage.{RawImage as CodeRawImage}
use Rattle.kfs_types.specs.Views.{header_of, name_row_of}
use Rattle.kfs_model.specs.Device.RawImage.{RawNode, ExtentRow, RawImage}

abbrev pub raw_node_of : CodeNodeRow → RawNode
raw_node_of row = record { number = row.number; header = header_of row.header }

abbrev pub extent_row_of : {A : Type 0} → CodeExtentRow A → ExtentRow
extent_row_of row = record {
  number = row.number;
  block = row.extent.block;
  tier = row.extent.tier;
  place = row.extent.place;
  count = row.extent.count;
  bytes = row.bytes.items;
}

abbrev pub raw_of : {A : Type 0} → CodeRawImage A → RawImage
raw_of raw = record {
  version = raw.version;
  sizes = raw.sizes;
  nodes = map raw_node_of raw.nodes.items;
  names = map name_row_of raw.names.items;
  extents = map extent_row_of raw.extents.items;
}
