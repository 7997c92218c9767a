-- Three tiers in contracts, and what a change of several places makes of them.
use Rattle.std.specs.Prelude.{◌≡◌, ℕ, ◌<◌, ◌&&◌, ◌==◌, Bool, true, false, IsTrue, List, [], ◌∷◌, All, length, replicate, slice_index_or, slice_set}
use Rattle.std.specs.List.{list_any}
use Rattle.kfs_model.specs.Table.{empty, insert}
use Rattle.kfs_model.specs.Placement.{TierSizes, Place, tier_size}
use Rattle.kfs_model.specs.Device.Device.{Devices}
use Rattle.kfs_image.specs.Tier.Places.{is_free_in}
use Rattle.kfs_image.specs.declared.tier.tiers.NewBlock.{NewBlock}

-- the tiers' sizes, for each tier a list that says of each place whether it is free, and the written
-- blocks
pub record TiersShown : Type 0 where
  pub sizes : TierSizes
  pub free : List (List Bool)
  pub devices : Devices

-- new tiers of these sizes: all places are free, and no block is written
abbrev pub new_tiers : TierSizes → TiersShown
new_tiers sizes = record {
  sizes = sizes;
  free = replicate sizes.first true ∷ replicate sizes.second true ∷ replicate sizes.third true ∷ [];
  devices = empty;
}

-- the places of the tier; no places for a tier over 2
abbrev pub places_in : List (List Bool) → (tier : ℕ) → List Bool
places_in free tier = slice_index_or free tier []

-- whether the place exists and is free
abbrev pub is_free_at : List (List Bool) → Place → Bool
is_free_at free place = is_free_in (places_in free place.tier) place.place

-- the place is in its tier
abbrev pub IsInTier : List (List Bool) → Place → Type 0
IsInTier free place = place.place < length (places_in free place.tier)

-- whether the two are the same place
abbrev pub is_place : (place other : Place) → Bool
is_place place other = (place.tier == other.tier) && (place.place == other.place)

abbrev pub is_among : List Place → Place → Bool
is_among places place = list_any (λ p. is_place p place) places

-- no place is listed twice
abbrev pub PlacesAreDistinct : List Place → Type 0
PlacesAreDistinct [] = Unit {0}
PlacesAreDistinct (place ∷ places) = (is_among places place ≡ false) × PlacesAreDistinct places

-- the lists, with this place free, or used
abbrev pub with_place : (value : Bool) → Place → List (List Bool) → List (List Bool)
with_place value place free = slice_set free place.tier (slice_set (places_in free place.tier) place.place value)

-- the lists, with each of these places free, or used
unfoldable pub with_places : (value : Bool) → List Place → List (List Bool) → List (List Bool)
with_places value [] free = free
with_places value (place ∷ places) free = with_places value places (with_place value place free)

-- the devices with these blocks written, one after another
unfoldable pub with_blocks : {A : Type 0} → List (NewBlock A) → Devices → Devices
with_blocks [] devices = devices
with_blocks (block ∷ blocks) devices = with_blocks blocks (insert devices (block.place.tier, block.place.place) block.bytes.items)

-- there are three tiers, each with as many places as its size
pub record TiersAreSized (sizes : TierSizes) (free : List (List Bool)) : Type 0 where
  pub tiers : length free ≡ 3
  pub places : (tier : ℕ) → length (places_in free tier) ≡ tier_size sizes tier

-- The places in `given` can be made free, and then those in `taken` used. The given ones are in use,
-- the taken ones are free by then, and no place is twice in either list.
pub record CanMove (free : List (List Bool)) (given taken : List Place) : Type 0 where
  pub given_used : All (λ p. IsInTier free p × (is_free_at free p ≡ false)) given
  pub given_once : PlacesAreDistinct given
  pub taken_free : All (λ p. IsTrue (is_free_at (with_places true given free) p)) taken
  pub taken_once : PlacesAreDistinct taken

-- the lists after the given places become free and the taken ones used
abbrev pub moved : (given taken : List Place) → List (List Bool) → List (List Bool)
moved given taken free = with_places false taken (with_places true given free)

-- the tiers after these places become free, those used, and the blocks are written
abbrev pub changed : {A : Type 0} (given taken : List Place) → List (NewBlock A) → TiersShown → TiersShown
changed given taken written tiers = record { sizes = tiers.sizes; free = moved given taken tiers.free; devices = with_blocks written tiers.devices }
