-- Places that blocks leave can be given back, and those that they enter taken, and then free are the unused places again.
use Rattle.std.proofs.Common.{◌≡◌, ℕ, zero, suc, ◌<◌, ◌==◌, ◌&&◌, ⊎_elim, Bool, true, false, cond, not, All, List, [], ◌∷◌, length, get_or, Some, refl, sym, ap, subst, ◌∙◌, arith, eqb-true, eq-eqb}
use Rattle.std.proofs.lemmas.Bool.{and_parts, both_ways, cases_Bool, or_cases, or_left, or_right}
use Rattle.std.proofs.lemmas.List.Elements.{All-head, All-tail}
use Rattle.kfs_model.specs.Table.{numbers, pairs, get}
use Rattle.kfs_model.specs.Placement.{Place, Placement, tier_size, is_free, IsLaid}
use Rattle.kfs_model.proofs.Tables.{found_from_any, any_from_found}
use Rattle.kfs_model.specs.Device.Device.{Devices}
use Rattle.kfs_image.specs.Tier.Tiers.{TiersShown, is_free_at, IsInTier, is_place, is_among, with_places, CanMove}
use Rattle.kfs_image.specs.Tier.Unused.{FreeIsUnused, IsLeft, AreMoved, CanFollow, KeepsUnused}
use Rattle.kfs_image.proofs.TierLemmas.TierChanges.{can_turn, free_in_tier, is_free_at-with_places, TiersAreSized-with_places}

-- ---- equal places

pub is_place-is : (p q : Place) → is_place p q ≡ true → p ≡ q
is_place-is p q is =
    let (tiers, places) = and_parts (p.tier == q.tier) (p.place == q.place) is in
    let tier = eqb-true p.tier q.tier tiers in
    let place = eqb-true p.place q.place places in
    λ i. record { tier = tier i; place = place i }

pub is_place-same : (p q : Place) → p ≡ q → is_place p q ≡ true
is_place-same p q same = ap (λ b. b && (p.place == q.place)) (eq-eqb p.tier q.tier (ap (λ (r : Place). r.tier) same)) ∙ eq-eqb p.place q.place (ap (λ (r : Place). r.place) same)

pub among_at : (places : List Place) (k : ℕ) (d : Place) → k < length places → is_among places (get_or places k d) ≡ true
among_at [] k d below = absurd (omega (arith, below))
among_at (p ∷ ps) zero d below = or_left (is_place p p) (is_among ps p) (is_place-same p p refl)
among_at (p ∷ ps) (suc k) d below = or_right (is_place p (get_or ps k d)) (is_among ps (get_or ps k d)) (among_at ps k d (omega (arith, below)))

pub among_all : (P : Place → Type 0) (places : List Place) (place : Place) → All P places → is_among places place ≡ true → P place
among_all P [] place all among = cc
among_all P (p ∷ ps) place all among =
    ⊎_elim
    (λ here. subst P (is_place-is p place here) (All-head P p ps all))
    (λ later. among_all P ps place (All-tail P p ps all) later)
    (or_cases (is_place p place) (is_among ps place) among)

-- ---- where blocks lie

module _ (placement : Placement) (place : Place) where
  pub used_from : (block : ℕ × ℕ) → get placement block ≡ Some place → is_free placement place ≡ false
  unfolding get
  used_from block there =
      ap not (any_from_found (pairs numbers numbers) (λ e. is_place e.1 place) placement.entries block place there (is_place-same place place refl))

  pub used_by : is_free placement place ≡ false → (block : ℕ × ℕ) × (get placement block ≡ Some place)
  unfolding get
  used_by used =
      let (block, value, found, passes) = found_from_any (pairs numbers numbers) (λ e. is_place e.1 place) placement.entries placement.sorted (some _ used) in
      (block, found ∙ ap Some (is_place-is value place passes))
    where
      some : (b : Bool) → not b ≡ false → b ≡ true
      some true is = refl
      some false is = sym is

module _ (old new : Placement) (tiers : TiersShown) (given taken : List Place) (holds : FreeIsUnused old tiers) (before : IsLaid tiers.sizes old) (after : IsLaid tiers.sizes new) (moves : AreMoved old new given taken) where
  in_tier : (place : Place) → place.place < tier_size tiers.sizes place.tier → IsInTier tiers.free place
  in_tier place below = omega (arith, below, holds.sized.places place.tier)

  given_used : (place : Place) → IsLeft old new place → IsInTier tiers.free place × (is_free_at tiers.free place ≡ false)
  given_used place left =
      let below = before.in_tier left.block place left.before in
      (in_tier place below, holds.unused place below ∙ used_from old place left.block left.before)

  -- which places are free once these are freed
  given_back : (place : Place) → is_free_at (with_places true given tiers.free) place ≡ cond (is_among given place) true (is_free_at tiers.free place)
  given_back place = is_free_at-with_places place true given tiers.free (can_turn true given tiers.free (λ k d inside. given_used _ (moves.each_left k d inside)) moves.given_once)

  -- a place that a block enters was free, or the block that was there leaves it
  free_to_enter : (place : Place) → IsLeft new old place → is_free_at (with_places true given tiers.free) place ≡ true
  free_to_enter place entered =
      given_back place ∙ ap (cond (is_among given place) true) (holds.unused place (after.in_tier entered.block place entered.before))
      ∙ ⊎_elim
      (λ free. ap (cond (is_among given place) true) free ∙ always (is_among given place))
      (λ used. let (block, there) = used_by old place used in ap (λ b. cond b true (is_free old place)) (moves.all_left place (record { block = block; before = there; after = λ still. stays block there still })))
      (cases_Bool (is_free old place))
    where
      always : (b : Bool) → cond b true true ≡ true
      always true = refl
      always false = refl

      -- else both blocks were the same one
      stays : (block : ℕ × ℕ) → get old block ≡ Some place → get new block ≡ Some place → ⊥
      stays block there still = entered.after (ap (get old) (after.apart entered.block block place entered.before still) ∙ there)

  pub can_move : CanMove tiers.free given taken
  can_move = record {
    given_used = λ k d inside. given_used _ (moves.each_left k d inside);
    given_once = moves.given_once;
    taken_free = λ k d inside. free_to_enter _ (moves.each_entered k d inside);
    taken_once = moves.taken_once;
  }

  -- which places are free in the end
  moved_free : (place : Place) → is_free_at (with_places false taken (with_places true given tiers.free)) place ≡ cond (is_among taken place) false (cond (is_among given place) true (is_free_at tiers.free place))
  moved_free place =
      is_free_at-with_places place false taken (with_places true given tiers.free)
      (can_turn false taken (with_places true given tiers.free) (λ k d inside. (free_in_tier (with_places true given tiers.free) _ (can_move.taken_free k d inside), can_move.taken_free k d inside)) moves.taken_once)
      ∙ ap (cond (is_among taken place) false) (given_back place)

  -- a place whose blocks all stay, or were there, is as free as it was
  nothing_enters : (place : Place) (block : ℕ × ℕ) → is_among taken place ≡ false → get new block ≡ Some place → (get old block ≡ Some place → ⊥) → ⊥
  nothing_enters place block none there came = both_ways (is_among taken place) none (moves.all_entered place (record { block = block; before = there; after = came }))

  nothing_leaves : (place : Place) (block : ℕ × ℕ) → is_among given place ≡ false → get old block ≡ Some place → (get new block ≡ Some place → ⊥) → ⊥
  nothing_leaves place block none there went = both_ways (is_among given place) none (moves.all_left place (record { block = block; before = there; after = went }))

  -- a place that a block leaves and none enters has none
  left_empty : (place : Place) (block : ℕ × ℕ) → is_among taken place ≡ false → IsLeft old new place → get new block ≡ Some place → ⊥
  left_empty place block none left there = nothing_enters place block none there (λ was. left.after (ap (get new) (before.apart left.block block place left.before was) ∙ there))

  settled : (place : Place) → cond (is_among taken place) false (cond (is_among given place) true (is_free old place)) ≡ is_free new place
  settled place = at (is_among taken place) (is_among given place) (is_free old place) (is_free new place) refl refl refl refl
    where
      at : (t g o n : Bool) → is_among taken place ≡ t → is_among given place ≡ g → is_free old place ≡ o → is_free new place ≡ n → cond t false (cond g true o) ≡ n
      at true g o true in_taken in_given was is =
          let entered = among_all (IsLeft new old) taken place moves.each_entered in_taken in
          absurd (both_ways (is_free new place) (used_from new place entered.block entered.before) is)
      at true g o false in_taken in_given was is = refl
      at false true o true in_taken in_given was is = refl
      at false true o false in_taken in_given was is =
          let (block, there) = used_by new place is in absurd (left_empty place block in_taken (among_all (IsLeft old new) given place moves.each_left in_given) there)
      at false false true true in_taken in_given was is = refl
      at false false false false in_taken in_given was is = refl
      at false false true false in_taken in_given was is =
          let (block, there) = used_by new place is in
          absurd (nothing_enters place block in_taken there (λ here. both_ways (is_free old place) (used_from old place block here) was))
      at false false false true in_taken in_given was is =
          let (block, there) = used_by old place was in
          absurd (nothing_leaves place block in_given there (λ here. both_ways (is_free new place) (used_from new place block here) is))

  pub free_is_unused : (devices : Devices) → FreeIsUnused new (record { sizes = tiers.sizes; free = with_places false taken (with_places true given tiers.free); devices = devices })
  free_is_unused devices = record {
    sized = TiersAreSized-with_places tiers.sizes false taken (with_places true given tiers.free) (TiersAreSized-with_places tiers.sizes true given tiers.free holds.sized);
    unused = λ place below. moved_free place ∙ ap (λ b. cond (is_among taken place) false (cond (is_among given place) true b)) (holds.unused place below) ∙ settled place;
  }

pub CanFollow-holds : (old new : Placement) (tiers : TiersShown) (given taken : List Place) → CanFollow old new tiers given taken
CanFollow-holds old new tiers given taken holds before after moves = can_move old new tiers given taken holds before after moves

pub KeepsUnused-holds : (old new : Placement) (tiers : TiersShown) (given taken : List Place) (devices : Devices) → KeepsUnused old new tiers given taken devices
KeepsUnused-holds old new tiers given taken devices holds before after moves = free_is_unused old new tiers given taken holds before after moves devices
