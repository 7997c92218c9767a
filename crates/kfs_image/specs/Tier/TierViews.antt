-- The code's tiers in contracts.
use Rattle.std.specs.Prelude.{◌≡◌, ℕ, ◌+◌, Bool, not, List, [], ◌∷◌, map, slice_index_or, Option, Some, None}
use Rattle.kfs_model.specs.Table.{empty, insert, remove}
use Rattle.kfs_model.specs.Placement.{Place}
use Rattle.kfs_model.specs.Device.Device.{Devices}
use Rattle.kfs_image.specs.Tier.Blocks.{HasRoomForBlock}
use Rattle.kfs_image.specs.Tier.Tier.{TierShown}
use Rattle.kfs_image.specs.Tier.Tiers.{IsInTier, is_free_at, with_place}

abbrev pub free_of : List TierShown → List (List Bool)
free_of tiers = map (λ t. t.places) tiers

-- no place and no block
abbrev pub no_tier : TierShown
no_tier = record { places = []; blocks = empty }

abbrev pub tier_of : List TierShown → (tier : ℕ) → TierShown
tier_of tiers tier = slice_index_or tiers tier no_tier

-- the devices with the block of a slot, or without it if it was never written
abbrev pub with_slot : (tier place : ℕ) → Option (List ℕ) → Devices → Devices
with_slot tier place None devices = remove devices (tier, place)
with_slot tier place (Some bytes) devices = insert devices (tier, place) bytes

unfoldable pub with_slots : (tier : ℕ) → List (ℕ × Option (List ℕ)) → Devices → Devices
with_slots tier [] devices = devices
with_slots tier (slot ∷ slots) devices = with_slot tier slot.0 slot.1 (with_slots tier slots devices)

-- the written blocks of these tiers, the first of which has this number
unfoldable pub devices_from : (tier : ℕ) → List TierShown → Devices
devices_from tier [] = empty
devices_from tier (t ∷ ts) = with_slots tier t.blocks.entries (devices_from (tier + 1) ts)

abbrev pub devices_of : List TierShown → Devices
devices_of tiers = devices_from 0 tiers

abbrev pub HasRoomAt : List TierShown → Place → Type 0
HasRoomAt tiers place = HasRoomForBlock (tier_of tiers place.tier).blocks place.place

-- each place is in its tier, and is still in the other state when it is its turn to change
unfoldable pub CanTurnPlaces : (value : Bool) → List Place → List (List Bool) → Type 0
CanTurnPlaces value [] free = Unit {0}
CanTurnPlaces value (place ∷ places) free = IsInTier free place × (is_free_at free place ≡ not value) × CanTurnPlaces value places (with_place value place free)
