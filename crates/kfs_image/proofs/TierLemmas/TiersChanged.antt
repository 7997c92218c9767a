-- What three tiers show once a change of them was made or refused, and the bytes that are read of them.
use Rattle.std.proofs.Common.{◌≡◌, ℕ, true, false, ltb, List, [], length, get_or, Option, Some, None, unwrap_or, Result, Ok, Err, refl, sym, ap, subst, ◌∙◌, inl, inr}
use Rattle.std.specs.Prelude.{OnOk, OnErr}
use Rattle.std.proofs.lemmas.Bool.{cases_lt, lt-ltb, both_ways}
use Rattle.std.proofs.lemmas.List.{get_or_past}
use Rattle.kfs_model.specs.Table.{get}
use Rattle.kfs_model.specs.Placement.{Place, TierSizes}
use Rattle.kfs_model.specs.Device.Device.{byte_on}
use Rattle.kfs_image.specs.declared.tier.tiers.NewBlock.{NewBlock}
use Rattle.kfs_image.specs.Tier.Blocks.{block_at, byte_at}
use Rattle.kfs_image.specs.Tier.Tier.{TierShown}
use Rattle.kfs_image.specs.Tier.Tiers.{TiersShown, with_places, with_blocks, TiersAreSized, changed}
use Rattle.kfs_image.specs.Tier.TierViews.{free_of, no_tier, tier_of, devices_of}
use Rattle.kfs_image.proofs.TierLemmas.TierLists.{get-devices_of}
use Rattle.kfs_image.proofs.TierLemmas.TierChanges.{TiersAreSized-with_places}

abbrev pub shown_of : TierSizes → List TierShown → TiersShown
shown_of sizes tiers = record { sizes = sizes; free = free_of tiers; devices = devices_of tiers }

module _ {A : Type 0} (sizes : TierSizes) (inside seen new : List TierShown) (old : TiersShown) (given taken : List Place) (written : List (NewBlock A)) (view : shown_of sizes inside ≡ old) (value : seen ≡ inside) where
  free_seen : free_of seen ≡ old.free
  free_seen = ap free_of value ∙ ap (λ t. t.free) view

  devices_seen : devices_of seen ≡ old.devices
  devices_seen = ap devices_of value ∙ ap (λ t. t.devices) view

  as_shown : (after : TiersShown) → sizes ≡ after.sizes → free_of new ≡ after.free → devices_of new ≡ after.devices → shown_of sizes new ≡ after
  as_shown after same_sizes same_free same_devices = λ i. record { sizes = same_sizes i; free = same_free i; devices = same_devices i }

  pub changed_ok : {E : Type 0} (result : Result (Unit {0}) E) → OnOk result (free_of new ≡ with_places false taken (with_places true given (free_of seen))) → OnOk result (devices_of new ≡ with_blocks written (devices_of seen))
      → OnOk result (shown_of sizes new ≡ changed given taken written old)
  changed_ok (Ok done) free devices =
      as_shown (changed given taken written old) (ap (λ t. t.sizes) view) (free ∙ ap (λ f. with_places false taken (with_places true given f)) free_seen) (devices ∙ ap (with_blocks written) devices_seen)
  changed_ok (Err error) free devices = tt

  pub changed_err : {E : Type 0} (result : Result (Unit {0}) E) → OnErr result (free_of new ≡ free_of seen) → OnErr result (devices_of new ≡ devices_of seen) → OnErr result (shown_of sizes new ≡ old)
  changed_err (Ok done) free devices = tt
  changed_err (Err error) free devices = as_shown old (ap (λ t. t.sizes) view) (free ∙ free_seen) (devices ∙ devices_seen)

  pub changed_sized : {E : Type 0} (result : Result (Unit {0}) E) → OnOk result (free_of new ≡ with_places false taken (with_places true given (free_of seen))) → OnErr result (free_of new ≡ free_of seen)
      → TiersAreSized sizes (free_of inside) → TiersAreSized sizes (free_of new)
  changed_sized (Ok done) made kept sized =
      subst (TiersAreSized sizes) (sym (made ∙ ap (λ ts. with_places false taken (with_places true given (free_of ts))) value))
      (TiersAreSized-with_places sizes false taken (with_places true given (free_of inside)) (TiersAreSized-with_places sizes true given (free_of inside) sized))
  changed_sized (Err error) made kept sized = subst (TiersAreSized sizes) (sym (kept ∙ ap free_of value)) sized

-- a byte of the devices is that of the tier's block
pub byte_there : (sizes : TierSizes) (tiers : List TierShown) (shown : TiersShown) (t p : ℕ) (place : Place) (offset : ℕ) → shown_of sizes tiers ≡ shown → ◌≡◌ {A = Place} (record { tier = t; place = p }) place
    → byte_on shown.devices place offset ≡ byte_at (tier_of tiers t).blocks p offset
byte_there sizes tiers shown t p place offset view at =
    sym (ap (λ s. byte_on s.devices place offset) view) ∙ sym (ap (λ q. byte_on (devices_of tiers) q offset) at)
    ∙ ap byte_of (get-devices_of tiers t p) ∙ as_index (block_at (tier_of tiers t).blocks p)
  where
    byte_of : Option (List ℕ) → ℕ
    byte_of None = 0
    byte_of (Some bytes) = get_or bytes offset 0

    as_index : (slot : Option (List ℕ)) → byte_of slot ≡ get_or (unwrap_or slot []) offset 0
    as_index None = refl
    as_index (Some bytes) = refl

-- a tier over 2 has no blocks
pub byte_past : (tiers : List TierShown) (t p offset : ℕ) → false ≡ ltb t (length tiers) → byte_at (tier_of tiers t).blocks p offset ≡ 0
unfolding get
byte_past tiers t p offset none = elim (cases_lt t (length tiers)) [
  | inl below ↦ absurd (both_ways (ltb t (length tiers)) (sym none) (lt-ltb t (length tiers) below))
  | inr past ↦ ap (λ s. byte_at s.blocks p offset) (get_or_past tiers t no_tier past) ∙ of_none
]
  where
    of_none : byte_at no_tier.blocks p offset ≡ 0
    of_none = refl
