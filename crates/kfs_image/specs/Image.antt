-- An image in contracts: its nodes and names, which views share, and its blocks.
use Rattle.std.specs.Prelude.{ℕ, List}
use Rattle.kfs_model.specs.Table.{empty}
use Rattle.kfs_model.specs.Placement.{Place, TierSizes}
use Rattle.kfs_model.specs.Device.ShownTree.{DeviceImage}
use Rattle.kfs_types.specs.declared.plan.NameRow.{NameRow}
use Rattle.kfs_types.specs.declared.plan.NodeRow.{NodeRow}
use Rattle.kfs_image.specs.declared.blocks.fill.BlockEdits.{BlockEdits}
use Rattle.kfs_image.specs.Blocks.Blocks.{BlocksShown, changed}
use Rattle.kfs_image_nodes.specs.Change.{after_rows}
use Rattle.kfs_image_nodes.specs.Contents.{Contents, root_alone}

-- a pair of tier and number, as a place
abbrev pub place_at : ℕ × ℕ → Place
place_at pair = record { tier = pair.0; place = pair.1 }

-- the image of these nodes and names, over these blocks
abbrev pub image_with : Contents → BlocksShown → DeviceImage
image_with contents blocks = record {
  sizes = blocks.sizes;
  heads = contents.heads;
  names = contents.names;
  placement = blocks.placement;
  devices = blocks.devices;
}

-- the nodes and names of an image
abbrev pub contents_of : DeviceImage → Contents
contents_of image = record { heads = image.heads; names = image.names }

-- the blocks of an image: their places, and what was written
abbrev pub blocks_of : DeviceImage → BlocksShown
blocks_of image = record { sizes = image.sizes; placement = image.placement; devices = image.devices }

-- the image after these rows of names and nodes, and these edits of its blocks
abbrev pub changed_image : {A : Type 0} → List (NameRow (List ℕ)) → List NodeRow → BlockEdits A → DeviceImage → DeviceImage
changed_image names nodes edits image = image_with (after_rows (contents_of image) names nodes) (changed edits.places.items edits.written.items (blocks_of image))

-- a new image: the root directory alone, and no block written
abbrev pub fresh_image : TierSizes → DeviceImage
fresh_image sizes = image_with root_alone (record { sizes = sizes; placement = empty; devices = empty })
