-- The node and name rows of a raw image, as what they make of a shape.
use Rattle.std.specs.Prelude.{◌≡◌, Some}
use Rattle.kfs_types.specs.declared.entry.Header.{Header}
use Rattle.kfs_maps.specs.declared.pages.change.NumberEdit.{NumberEdit}
use Rattle.kfs_model.specs.Table.{Table, numbers}
use Rattle.kfs_model.specs.Device.RawImage.{RawImage, heads_of, names_of}
use Rattle.kfs_image.specs.declared.codec.raw.RawImage.{RawImage as CodeRawImage}
use Rattle.kfs_image.specs.declared.codec.raw.RawNode.{RawNode as CodeRawNode}
use Rattle.kfs_image.specs.Codec.RawImages.{raw_of}
use Rattle.kfs_image_nodes.specs.Contents.{Contents}
use Rattle.kfs_image_nodes.specs.Rows.{heads_of as shown_heads}

-- the row as an edit that gives its number the header
abbrev pub header_edit : CodeRawNode → NumberEdit Header
header_edit row = record { number = row.number; value = Some row.header }

-- the nodes and names of the rows
abbrev pub contents_of_raw : RawImage → Contents
contents_of_raw raw = record { heads = heads_of raw; names = names_of raw }

-- the map has the headers of the node rows, by number
abbrev pub AreHeaders : {A : Type 0} → Table numbers Header → CodeRawImage A → Type 0
AreHeaders headers raw = shown_heads headers ≡ heads_of (raw_of raw)
