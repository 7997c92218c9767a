-- What the free places say of a placement where they are exactly those in which no block lies.
use Rattle.std.proofs.Common.{◌≡◌, ℕ, zero, suc, ◌+◌, ◌<◌, Bool, true, false, cond, List, [], ◌∷◌, length, get_or, replicate, filter, refl, sym, ap, ◌∙◌, arith}
use Rattle.std.specs.List.{count_by}
use Rattle.std.proofs.lemmas.List.Sums.{sum_by-cons}
use Rattle.std.proofs.lemmas.List.{length-replicate, get_or-replicate, get_or_past}
use Rattle.kfs_model.specs.Table.{empty}
use Rattle.kfs_model.specs.Device.Device.{Devices}
use Rattle.kfs_model.specs.Placement.{TierSizes, Place, Placement, tier_size, is_free, numbers_from, below}
use Rattle.kfs_image.specs.Tier.Places.{free_count, is_free_in}
use Rattle.kfs_image.specs.Tier.Tiers.{TiersShown, TiersAreSized, places_in}
use Rattle.kfs_image.specs.Tier.Unused.{FreeIsUnused, CountsUnused, FindsUnused, MissesNone}
use Rattle.kfs_image.proofs.TierLemmas.TierChanges.{free_in_tier, TiersAreSized-three}

count_same : (f : ℕ → Bool) (places : List Bool) (first : ℕ) → ((i : ℕ) → i < length places → get_or places i false ≡ f (first + i))
    → count_by (λ free. free) places ≡ length (filter f (numbers_from first (length places)))
count_same f [] first same = refl
count_same f (x ∷ xs) first same =
    let later = filter f (numbers_from (first + 1) (length xs)) in
    one_more x (f first) (count_by (λ free. free) (x ∷ xs)) (count_by (λ free. free) xs) later
    (same 0 (omega arith) ∙ ap f (omega arith))
    (count_same f xs (first + 1) (λ i inside. same (suc i) (omega (arith, inside)) ∙ ap f (omega arith)))
    (sum_by-cons (λ free. cond free 1 0) x xs)
  where
    one_more : (a b : Bool) (all some : ℕ) (later : List ℕ) → a ≡ b → some ≡ length later → all ≡ cond a 1 0 + some → all ≡ length (cond b (first ∷ later) later)
    one_more a true all some later is rest long = omega (arith, long, ap {B = ℕ} (λ c. cond c 1 0) is, rest)
    one_more a false all some later is rest long = omega (arith, long, ap {B = ℕ} (λ c. cond c 1 0) is, rest)

module _ (placement : Placement) (tiers : TiersShown) (holds : FreeIsUnused placement tiers) (tier : ℕ) where
  abbrev at : ℕ → Place
  at place = record { tier = tier; place = place }

  size_is : length (places_in tiers.free tier) ≡ tier_size tiers.sizes tier
  size_is = holds.sized.places tier

  -- a free place is one of the tier's
  within : (place : ℕ) → is_free_in (places_in tiers.free tier) place ≡ true → place < tier_size tiers.sizes tier
  within place free = let inside = free_in_tier tiers.free (at place) free in omega (arith, size_is, inside)

  pub counts : free_count (places_in tiers.free tier) ≡ length (filter (λ place. is_free placement (record { tier = tier; place = place })) (below (tier_size tiers.sizes tier)))
  counts =
      count_same (λ place. is_free placement (at place)) (places_in tiers.free tier) 0 (λ i inside. holds.unused (at i) (omega (arith, size_is, inside)) ∙ ap (λ n. is_free placement (at n)) (omega arith))
      ∙ ap (λ n. length (filter (λ place. is_free placement (at place)) (below n))) size_is

pub CountsUnused-holds : (placement : Placement) (tiers : TiersShown) → CountsUnused placement tiers
CountsUnused-holds placement tiers holds tier = counts placement tiers holds tier

pub FindsUnused-holds : (placement : Placement) (tiers : TiersShown) → FindsUnused placement tiers
FindsUnused-holds placement tiers holds tier from place next =
    let inside = within placement tiers holds tier place next.free in
    record {
      reached = next.reached;
      in_tier = inside;
      unused = sym (holds.unused (record { tier = tier; place = place }) inside) ∙ next.free;
      least = λ other reached below free. next.least other reached (holds.unused (record { tier = tier; place = other }) below ∙ free);
    }

pub MissesNone-holds : (placement : Placement) (tiers : TiersShown) → MissesNone placement tiers
MissesNone-holds placement tiers holds tier from used place reached below = sym (holds.unused (record { tier = tier; place = place }) below) ∙ used place reached

-- at first all places are free
module _ (sizes : TierSizes) where
  abbrev all_free : List (List Bool)
  all_free = replicate sizes.first true ∷ replicate sizes.second true ∷ replicate sizes.third true ∷ []

  all_sized : TiersAreSized sizes all_free
  all_sized = TiersAreSized-three sizes _ _ _ (length-replicate sizes.first true) (length-replicate sizes.second true) (length-replicate sizes.third true)

  one_free : (n p : ℕ) → p < length (replicate n true) → is_free_in (replicate n true) p ≡ true
  one_free n p below = get_or-replicate n p true false (omega (arith, below, length-replicate n true))

  each_free : (tier p : ℕ) → p < length (places_in all_free tier) → is_free_in (places_in all_free tier) p ≡ true
  each_free zero p below = one_free sizes.first p below
  each_free (suc zero) p below = one_free sizes.second p below
  each_free (suc (suc zero)) p below = one_free sizes.third p below
  each_free (suc (suc (suc tier))) p below = absurd (omega (arith, below, ap length (get_or_past all_free (suc (suc (suc tier))) [] (omega arith))))

  pub fresh_unused : (devices : Devices) → FreeIsUnused empty (record { sizes = sizes; free = replicate sizes.first true ∷ replicate sizes.second true ∷ replicate sizes.third true ∷ []; devices = devices })
  fresh_unused devices = record { sized = all_sized; unused = λ place below. each_free place.tier place.place (omega (arith, below, all_sized.places place.tier)) }
