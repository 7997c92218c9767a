-- What edits do to an image.
use Rattle.std.specs.Prelude.{◌≡◌, ◌<◌, All, List, [], ◌∷◌, vec_len, option_map}
use Rattle.kfs_model.specs.Limits.{block_size}
use Rattle.kfs_model.specs.Table.{changed, insert}
use Rattle.kfs_model.specs.Placement.{TierSizes, tier_size}
use Rattle.kfs_types.specs.Views.{header_of}
use Rattle.kfs_model.specs.Device.ShownTree.{DeviceImage, IsLawful}
use Rattle.kfs_image.specs.Image.{place_at}
use Rattle.kfs_image.specs.declared.edit.Edit.{Edit}
use Rattle.kfs_image.specs.declared.edit.Edit.TheVariants.{Header, Name, Map, Bytes}

module _ {A : Type 0} where
  -- the image after one edit: another header, name, place of a block or content of a place
  abbrev pub edited : Edit A → DeviceImage → DeviceImage
  edited (Header number header) image = record image { heads = changed image.heads number (option_map header_of header) }
  edited (Name dir name number) image = record image { names = changed image.names (dir, name) number }
  edited (Map number block pair) image = record image { placement = changed image.placement (number, block) (option_map place_at pair) }
  edited (Bytes tier place bytes) image = record image { devices = insert image.devices (tier, place) bytes.items }

  -- the image after the edits, one after the other
  unfoldable pub edited_all : List (Edit A) → DeviceImage → DeviceImage
  edited_all [] image = image
  edited_all (e ∷ es) image = edited_all es (edited e image)

  -- a block that is written lies in its tier, and is whole
  abbrev pub WritesWholeBlocks : TierSizes → Edit A → Type 0
  WritesWholeBlocks sizes (Header number header) = Unit
  WritesWholeBlocks sizes (Name dir name number) = Unit
  WritesWholeBlocks sizes (Map number block pair) = Unit
  WritesWholeBlocks sizes (Bytes tier place bytes) = (place < tier_size sizes tier) × (vec_len bytes ≡ block_size)

  -- the image is lawful after the edits, and each block that is written lies in its tier and is whole
  pub record CanEdit (edits : List (Edit A)) (image : DeviceImage) : Type 0 where
    pub lawful : IsLawful (edited_all edits image)
    pub whole : All (WritesWholeBlocks image.sizes) edits
