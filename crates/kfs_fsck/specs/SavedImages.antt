-- An image that is saved as bytes, and read again.
use Rattle.std.specs.Prelude.{◌≡◌, Ok}
use Rattle.kfs_model.specs.Limits.{latest_version}
use Rattle.kfs_model.specs.Device.ShownTree.{DeviceImage, shown_tree}
use Rattle.kfs_model.specs.Device.RawImage.{RawImage, image_of, placement_of}
use Rattle.kfs_model.specs.Device.Finding.{IsWellFormed}
use Rattle.kfs_model.specs.Device.Spelling.{ImageAnswer}
use Rattle.kfs_model.specs.Device.Canonical.{image_bytes}

-- a decoder answers rows of the latest version, which break no rule and show the image's tree and placement
pub record IsReadAgain (image : DeviceImage) : Type 0 where
  pub rows : RawImage
  pub spelled : ImageAnswer (image_bytes image) (Ok rows)
  pub version : rows.version ≡ latest_version
  pub well_formed : IsWellFormed rows
  pub sizes : rows.sizes ≡ image.sizes
  pub tree : shown_tree (image_of rows) ≡ shown_tree image
  pub placement : placement_of rows ≡ image.placement
