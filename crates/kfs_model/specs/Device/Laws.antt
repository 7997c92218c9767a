-- The words in which the laws are stated: for each place of a tier, and for the bytes of each file.
use Rattle.std.specs.Prelude.{◌≡◌, ℕ, ◌<◌, ◌&&◌, nat_lt, length, slice_get, Some}
use Rattle.kfs_model.specs.Placement.{TierSizes, Place, Placement, tier_size, is_free}
use Rattle.kfs_model.specs.Device.Device.{Devices}
use Rattle.kfs_model.specs.Device.ShownTree.{file_byte, file_bytes}
use Rattle.kfs_model.specs.Device.FreeRuns.{is_in_one, free_runs}

-- the place is in a free run exactly where it is in its tier and no block lies there
abbrev pub IsFreeInRuns : TierSizes → Placement → Place → Type 0
IsFreeInRuns sizes placement place = is_in_one (free_runs sizes placement place.tier) place.place ≡ (nat_lt place.place (tier_size sizes place.tier) && is_free placement place)

-- the file has as many bytes as its size, and each is its block's byte
pub record AreBytesOfBlocks (placement : Placement) (devices : Devices) (number size : ℕ) : Type 0 where
  pub many : length (file_bytes placement devices number size) ≡ size
  pub each : (position : ℕ) → position < size → slice_get (file_bytes placement devices number size) position ≡ Some (file_byte placement devices number position)
