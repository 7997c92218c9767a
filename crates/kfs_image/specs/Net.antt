-- What a landing does to an image: names and headers become those of the net, blocks those of the fill.
use Rattle.std.specs.Prelude.{◌≡◌, ℕ, ◌<◌, nat_lt, Bool, All, List, Option, Some, None, vec_len, if◌then◌else◌}
use Rattle.kfs_model.specs.Header.{Header}
use Rattle.kfs_model.specs.Limits.{block_size}
use Rattle.kfs_model.specs.Table.{Table, numbers, get, retain}
use Rattle.kfs_model.specs.Sight.{is_file}
use Rattle.kfs_model.specs.Placement.{Placement, tier_size, block_count}
use Rattle.kfs_model.specs.Device.ShownTree.{DeviceImage, IsLawful}
use Rattle.kfs_image.specs.Blocks.Fill.{less, mapped_by, written_by}
use Rattle.kfs_image_nodes.specs.declared.net.Net.{Net}
use Rattle.kfs_image_nodes.specs.Change.{renamed, reheaded}
use Rattle.kfs_image.specs.declared.net.Fill.{Fill}

-- how many blocks a file of this size has; 0 where it is no file
abbrev pub blocks_in : Option Header → ℕ
blocks_in None = 0
blocks_in (Some h) = if is_file (Some h) then block_count h.size else 0

-- whether the block begins below the size of its file
abbrev pub is_block : Table numbers Header → ℕ × ℕ → Bool
is_block heads block = nat_lt block.1 (blocks_in (get heads block.0))

-- the placement without blocks that these headers' files don't have
abbrev pub cut : Table numbers Header → Placement → Placement
cut heads placement = retain (is_block heads) placement

module _ {A : Type 0} where
  -- the image with the net's rows, and no block written
  abbrev pub after_net : Net A (List ℕ) → DeviceImage → DeviceImage
  after_net net image = record image {
    heads = reheaded image.heads net.nodes.items;
    names = renamed image.names net.names.items;
    placement = cut (reheaded image.heads net.nodes.items) image.placement;
  }

  -- Names and headers become those of the net's rows. Blocks that become zero, or belong to no file any
  -- more, are unmapped. Then the written blocks are put at their places, with their bytes.
  abbrev pub applied : Net A (List ℕ) → Fill A → DeviceImage → DeviceImage
  applied net fill image = record {
    sizes = image.sizes;
    heads = reheaded image.heads net.nodes.items;
    names = renamed image.names net.names.items;
    placement = mapped_by fill.rows.items (cut (reheaded image.heads net.nodes.items) (less fill.zero.items image.placement));
    devices = written_by fill.rows.items image.devices;
  }

  -- The image is lawful after the change. Each written block lies in its tier and is whole.
  pub record CanApply (net : Net A (List ℕ)) (fill : Fill A) (image : DeviceImage) : Type 0 where
    pub lawful : IsLawful (applied net fill image)
    pub in_tier : All (λ r. r.place.place < tier_size image.sizes r.place.tier) fill.rows.items
    pub whole : All (λ r. vec_len r.bytes ≡ block_size) fill.rows.items
