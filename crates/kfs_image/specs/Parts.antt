-- What edits change in each of an image's tables.
use Rattle.std.specs.Prelude.{◌≡◌, ℕ, ◌<◌, All, List, map, Option, vec_len}
use Rattle.kfs_model.specs.Limits.{block_size}
use Rattle.kfs_model.specs.Placement.{TierSizes, tier_size}
use Rattle.kfs_model.specs.Plan.{number_now}
use Rattle.kfs_model.specs.Device.ShownTree.{DeviceImage}
use Rattle.kfs_maps.specs.Chunks.Overlays.{overlaid}
use Rattle.kfs_image.specs.declared.tier.tiers.NewBlock.{NewBlock}
use Rattle.kfs_image.specs.Tier.Tiers.{with_blocks}
use Rattle.kfs_image_nodes.specs.Change.{led_to, renamed, reheaded}
use Rattle.kfs_image.specs.declared.edit.Edit.{Edit}
use Rattle.kfs_image.specs.declared.edit.Edit.TheVariants.{Header, Name, Map, Bytes}
use Rattle.kfs_image.specs.declared.edit.Parts.{Parts}
use Rattle.kfs_image.specs.Edit.{edited_all, WritesWholeBlocks}

-- the number; 0 counts as none
abbrev pub above_zero : Option ℕ → Option ℕ
above_zero number = led_to (number_now number)

module _ {A : Type 0} where
  -- the edit; a name that is to lead to 0 is to lead nowhere
  abbrev pub plain : Edit A → Edit A
  plain (Header number header) = Header number header
  plain (Name dir name number) = Name dir name (above_zero number)
  plain (Map number block pair) = Map number block pair
  plain (Bytes tier place bytes) = Bytes tier place bytes

  -- the image with the parts' values in place of its own
  abbrev pub with_parts : Parts A → DeviceImage → DeviceImage
  with_parts parts image = record {
    sizes = image.sizes;
    heads = reheaded image.heads parts.nodes.items;
    names = renamed image.names parts.names.items;
    placement = overlaid image.placement parts.block_places.latest.entries;
    devices = with_blocks parts.written.items image.devices;
  }

  -- each block lies in its tier, and is whole
  abbrev pub BlocksAreWhole : TierSizes → List (NewBlock A) → Type 0
  BlocksAreWhole sizes written = All (λ b. (b.place.place < tier_size sizes b.place.tier) × (vec_len b.bytes ≡ block_size)) written

  -- the parts change each image as the edits do, in order; and the parts write whole blocks if the
  -- edits do
  pub record PartsAreOf (edits : List (Edit A)) (parts : Parts A) : Type 0 where
    pub make : (image : DeviceImage) → with_parts parts image ≡ edited_all (map plain edits) image
    pub whole : (sizes : TierSizes) → All (WritesWholeBlocks sizes) edits → BlocksAreWhole sizes parts.written.items
