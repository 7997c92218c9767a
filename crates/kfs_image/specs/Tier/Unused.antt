-- Tiers next to a placement: a place is free exactly where no block of a file lies.
use Rattle.std.specs.Prelude.{◌≡◌, ℕ, ◌<◌, ◌≤◌, true, false, All, List, length, filter, Some}
use Rattle.kfs_model.specs.Table.{get}
use Rattle.kfs_model.specs.Placement.{TierSizes, Place, Placement, tier_size, is_free, below, IsLaid}
use Rattle.kfs_model.specs.Device.Device.{Devices}
use Rattle.kfs_image.specs.Tier.Places.{free_count, IsNextFree, AreUsedFrom}
use Rattle.kfs_image.specs.Tier.Tiers.{TiersShown, TiersAreSized, places_in, is_free_at, is_among, PlacesAreDistinct, CanMove, moved}

-- each place of a tier is free exactly where no block of a file lies there
pub record FreeIsUnused (placement : Placement) (tiers : TiersShown) : Type 0 where
  pub sized : TiersAreSized tiers.sizes tiers.free
  pub unused : (place : Place) → place.place < tier_size tiers.sizes place.tier → is_free_at tiers.free place ≡ is_free placement place

-- the places of the tier that hold no block, ascending
abbrev pub unused_places : TierSizes → Placement → (tier : ℕ) → List ℕ
unused_places sizes placement tier = filter (λ place. is_free placement (record { tier = tier; place = place })) (below (tier_size sizes tier))

-- the place is the tier's least one from `from` on that holds no block
pub record IsNextUnused (sizes : TierSizes) (placement : Placement) (tier from place : ℕ) : Type 0 where
  pub reached : from ≤ place
  pub in_tier : place < tier_size sizes tier
  pub unused : is_free placement (record { tier = tier; place = place }) ≡ true
  pub least : (other : ℕ) → from ≤ other → other < tier_size sizes tier → is_free placement (record { tier = tier; place = other }) ≡ true → place ≤ other

-- each place of the tier from `from` on holds a block
abbrev pub AreTakenFrom : TierSizes → Placement → (tier from : ℕ) → Type 0
AreTakenFrom sizes placement tier from = (place : ℕ) → from ≤ place → place < tier_size sizes tier → is_free placement (record { tier = tier; place = place }) ≡ false

-- a block lies at the place in the old placement, and none in the new one
pub record IsLeft (old new : Placement) (place : Place) : Type 0 where
  pub block : ℕ × ℕ
  pub before : get old block ≡ Some place
  pub after : get new block ≡ Some place → ⊥

-- Given are the places that a block leaves, taken those that a block enters, and no place is twice in
-- either list. A place that one block leaves and another enters is in both.
pub record AreMoved (old new : Placement) (given taken : List Place) : Type 0 where
  pub each_left : All (IsLeft old new) given
  pub all_left : (place : Place) → IsLeft old new place → is_among given place ≡ true
  pub given_once : PlacesAreDistinct given
  pub each_entered : All (IsLeft new old) taken
  pub all_entered : (place : Place) → IsLeft new old place → is_among taken place ≡ true
  pub taken_once : PlacesAreDistinct taken

-- if the free places are the unused ones, the free count is right; below, the same for the next free
-- place, and for there being none
abbrev pub CountsUnused : Placement → TiersShown → Type 0
CountsUnused placement tiers = FreeIsUnused placement tiers → (tier : ℕ) → free_count (places_in tiers.free tier) ≡ length (unused_places tiers.sizes placement tier)

abbrev pub FindsUnused : Placement → TiersShown → Type 0
FindsUnused placement tiers = FreeIsUnused placement tiers → (tier from place : ℕ) → IsNextFree (places_in tiers.free tier) from place → IsNextUnused tiers.sizes placement tier from place

abbrev pub MissesNone : Placement → TiersShown → Type 0
MissesNone placement tiers = FreeIsUnused placement tiers → (tier from : ℕ) → AreUsedFrom (places_in tiers.free tier) from → AreTakenFrom tiers.sizes placement tier from

-- if the free places are the unused ones, the places that blocks leave can be made free, and those that
-- they enter used
abbrev pub CanFollow : (old new : Placement) → TiersShown → (given taken : List Place) → Type 0
CanFollow old new tiers given taken =
    FreeIsUnused old tiers → IsLaid tiers.sizes old → IsLaid tiers.sizes new → AreMoved old new given taken → CanMove tiers.free given taken

-- and afterwards the free places are again the unused ones
abbrev pub KeepsUnused : (old new : Placement) → TiersShown → (given taken : List Place) → Devices → Type 0
KeepsUnused old new tiers given taken devices =
    FreeIsUnused old tiers → IsLaid tiers.sizes old → IsLaid tiers.sizes new → AreMoved old new given taken
    → FreeIsUnused new (record { sizes = tiers.sizes; free = moved given taken tiers.free; devices = devices })
