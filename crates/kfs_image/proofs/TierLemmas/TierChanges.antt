-- Which places are free once several of them have turned.
use Rattle.std.proofs.Common.{◌≡◌, ℕ, zero, suc, ◌<◌, ◌≤◌, ◌==◌, ◌&&◌, ◌||◌, Bool, true, false, cond, not, List, [], ◌∷◌, length, get_or, set, replicate, All, refl, sym, ap, subst, ◌∙◌, arith, inl, inr}
use Rattle.std.proofs.lemmas.Bool.{cases_eq, cases_lt, eq-eqb, ne_eqb, both_ways}
use Rattle.std.proofs.lemmas.List.{get_or-set_same, get_or-set_other, get_or_past, length-set}
use Rattle.std.proofs.lemmas.List.Elements.{All-head, All-tail}
use Rattle.kfs_model.specs.Table.{empty}
use Rattle.kfs_model.specs.Placement.{Place, TierSizes, tier_size}
use Rattle.kfs_image.specs.Tier.Places.{is_free_in}
use Rattle.kfs_image.specs.Tier.Tier.{TierShown}
use Rattle.kfs_image.specs.Tier.Tiers.{TiersShown, new_tiers, places_in, is_free_at, IsInTier, is_place, is_among, PlacesAreDistinct, with_place, with_places, CanMove, TiersAreSized}
use Rattle.kfs_image.specs.Tier.TierViews.{free_of, with_slots, devices_from, devices_of, CanTurnPlaces}

in_free : (free : List (List Bool)) (t p : ℕ) → p < length (places_in free t) → t < length free
in_free free t p inside = elim (cases_lt t (length free)) [
  | inl below ↦ below
  | inr past ↦ absurd (omega (arith, inside, ap length (get_or_past free t [] past)))
]

module _ (value : Bool) (place : Place) (free : List (List Bool)) where
  pub length-with_place : (t : ℕ) → length (places_in (with_place value place free) t) ≡ length (places_in free t)
  length-with_place t = elim (cases_eq t place.tier) [
    | inl same ↦
        elim (cases_lt place.tier (length free)) [
          | inl below ↦
              ap (λ n. length (places_in (with_place value place free) n)) same
              ∙ ap length (get_or-set_same free place.tier (set (places_in free place.tier) place.place value) [] below)
              ∙ length-set (places_in free place.tier) place.place value
              ∙ ap (λ n. length (places_in free n)) (sym same)
          | inr past ↦
              ap (λ n. length (places_in (with_place value place free) n)) same
              ∙ ap length (get_or_past (with_place value place free) place.tier [] (omega (arith, past, length-set free place.tier (set (places_in free place.tier) place.place value))))
              ∙ sym (ap (λ n. length (places_in free n)) same ∙ ap length (get_or_past free place.tier [] past))
        ]
    | inr other ↦ ap length (get_or-set_other free place.tier t (set (places_in free place.tier) place.place value) [] other)
  ]

  pub is_free_at-with_place : IsInTier free place → (q : Place) → is_free_at (with_place value place free) q ≡ cond (is_place place q) value (is_free_at free q)
  is_free_at-with_place inside q = elim (cases_eq q.tier place.tier) [
    | inl same ↦
        ap (λ n. is_free_in (places_in (with_place value place free) n) q.place) same
        ∙ ap (λ places. is_free_in places q.place) (get_or-set_same free place.tier (set (places_in free place.tier) place.place value) [] (in_free free place.tier place.place inside))
        ∙ elim (cases_eq q.place place.place) [
          | inl here ↦
              ap (λ n. get_or (set (places_in free place.tier) place.place value) n false) here ∙ get_or-set_same (places_in free place.tier) place.place value false inside
              ∙ ap (λ b. cond b value (is_free_at free q)) (sym (ap (λ b. b && (place.place == q.place)) (eq-eqb place.tier q.tier (sym same)) ∙ eq-eqb place.place q.place (sym here)))
          | inr other ↦
              get_or-set_other (places_in free place.tier) place.place q.place value false other
              ∙ ap (λ n. is_free_in (places_in free n) q.place) (sym same)
              ∙ ap (λ b. cond b value (is_free_at free q)) (sym (and_false (place.tier == q.tier) (place.place == q.place) (ne_eqb place.place q.place (λ e. other (sym e)))))
        ]
    | inr other ↦
        ap (λ places. is_free_in places q.place) (get_or-set_other free place.tier q.tier (set (places_in free place.tier) place.place value) [] other)
        ∙ ap (λ b. cond (b && (place.place == q.place)) value (is_free_at free q)) (sym (ne_eqb place.tier q.tier (λ e. other (sym e))))
  ]
    where
      and_false : (a b : Bool) → b ≡ false → (a && b) ≡ false
      and_false true b is = is
      and_false false b is = refl

module _ (q : Place) where
  is_among-rest : (place : Place) (places : List Place) → is_among (place ∷ places) q ≡ (is_place place q || is_among places q)
  is_among-rest place places = refl

  -- which places are free once these have turned
  pub is_free_at-with_places : (value : Bool) (places : List Place) (free : List (List Bool)) → CanTurnPlaces value places free
      → is_free_at (with_places value places free) q ≡ cond (is_among places q) value (is_free_at free q)
  unfolding with_places CanTurnPlaces
  is_free_at-with_places value [] free can = refl
  is_free_at-with_places value (place ∷ places) free can =
      is_free_at-with_places value places (with_place value place free) can.2
      ∙ ap (λ b. cond (is_among places q) value b) (is_free_at-with_place value place free can.0 q)
      ∙ either (is_place place q) (is_among places q)
    where
      either : (a b : Bool) → cond b value (cond a value (is_free_at free q)) ≡ cond (a || b) value (is_free_at free q)
      either true true = refl
      either true false = refl
      either false b = refl

-- no place among these is another one
not_among : (places : List Place) (place : Place) (k : ℕ) (d : Place) → is_among places place ≡ false → k < length places → is_place (get_or places k d) place ≡ false
not_among [] place k d none below = absurd (omega (arith, below))
not_among (p ∷ ps) place zero d none below = (or_false (is_place p place) (is_among ps place) none).0
  where
    or_false : (a b : Bool) → (a || b) ≡ false → (a ≡ false) × (b ≡ false)
    or_false false b is = (refl, is)
    or_false true b is = cc
not_among (p ∷ ps) place (suc k) d none below = not_among ps place k d (or_rest (is_place p place) (is_among ps place) none) (omega (arith, below))
  where
    or_rest : (a b : Bool) → (a || b) ≡ false → b ≡ false
    or_rest false b is = is
    or_rest true b is = cc

is_place-turned : (p q : Place) → is_place p q ≡ false → is_place q p ≡ false
is_place-turned p q is = ap (λ b. b && (q.place == p.place)) (eqb_turned q.tier p.tier) ∙ ap (λ b. (p.tier == q.tier) && b) (eqb_turned q.place p.place) ∙ is
  where
    eqb_turned : (a b : ℕ) → (a == b) ≡ (b == a)
    eqb_turned a b = elim (cases_eq a b) [
      | inl same ↦ eq-eqb a b same ∙ sym (eq-eqb b a (sym same))
      | inr other ↦ ne_eqb a b other ∙ sym (ne_eqb b a (λ e. other (sym e)))
    ]

-- distinct places that are all used, or all free, can turn one after another
pub can_turn : (value : Bool) (places : List Place) (free : List (List Bool)) → All (λ p. IsInTier free p × (is_free_at free p ≡ not value)) places → PlacesAreDistinct places → CanTurnPlaces value places free
unfolding CanTurnPlaces
can_turn value [] free each once = tt
can_turn value (place ∷ places) free each once =
    let (inside, other) = All-head (λ (p : Place). IsInTier free p × (is_free_at free p ≡ not value)) place places each in
    let later = All-tail (λ (p : Place). IsInTier free p × (is_free_at free p ≡ not value)) place places each in (
      inside,
      other,
      can_turn value places (with_place value place free)
          (λ k d below.
          let q = get_or places k d in (
            subst (λ n. q.place < n) (sym (length-with_place value place free q.tier)) (later k d below).0,
            is_free_at-with_place value place free inside q
                ∙ ap (λ b. cond b value (is_free_at free q)) (is_place-turned q place (not_among places place k d once.0 below))
                ∙ (later k d below).1,
          ))
          once.1,
    )

pub length-with_places : (value : Bool) (places : List Place) (free : List (List Bool)) (t : ℕ) → length (places_in (with_places value places free) t) ≡ length (places_in free t)
unfolding with_places
length-with_places value [] free t = refl
length-with_places value (place ∷ places) free t = length-with_places value places (with_place value place free) t ∙ length-with_place value place free t

length-free : (value : Bool) (places : List Place) (free : List (List Bool)) → length (with_places value places free) ≡ length free
unfolding with_places
length-free value [] free = refl
length-free value (place ∷ places) free = length-free value places (with_place value place free) ∙ length-set free place.tier (set (places_in free place.tier) place.place value)

pub TiersAreSized-with_places : (sizes : TierSizes) (value : Bool) (places : List Place) (free : List (List Bool)) → TiersAreSized sizes free → TiersAreSized sizes (with_places value places free)
TiersAreSized-with_places sizes value places free sized = record {
  tiers = length-free value places free ∙ sized.tiers;
  places = λ t. length-with_places value places free t ∙ sized.places t;
}

-- a place that is free is one of its tier's
pub free_in_tier : (free : List (List Bool)) (place : Place) → is_free_at free place ≡ true → IsInTier free place
free_in_tier free place is = elim (cases_lt place.place (length (places_in free place.tier))) [
  | inl below ↦ below
  | inr past ↦ absurd (both_ways (is_free_at free place) (get_or_past (places_in free place.tier) place.place false past) is)
]

past_last : (sizes : TierSizes) (tier : ℕ) → 3 ≤ tier → tier_size sizes tier ≡ 0
past_last sizes tier past =
    ap (λ b. cond b sizes.first (cond (tier == 1) sizes.second (cond (tier == 2) sizes.third 0))) (ne_eqb tier 0 (λ e. omega arith))
    ∙ ap (λ b. cond b sizes.second (cond (tier == 2) sizes.third 0)) (ne_eqb tier 1 (λ e. omega arith))
    ∙ ap (λ b. cond b sizes.third 0) (ne_eqb tier 2 (λ e. omega arith))

pub TiersAreSized-three : (sizes : TierSizes) (a b c : List Bool) → length a ≡ sizes.first → length b ≡ sizes.second → length c ≡ sizes.third → TiersAreSized sizes (a ∷ b ∷ c ∷ [])
TiersAreSized-three sizes a b c first second third = record {
  tiers = refl;
  places = λ tier.
      elim (cases_eq tier 0) [
        | inl same ↦ subst (λ n. length (places_in (a ∷ b ∷ c ∷ []) n) ≡ tier_size sizes n) (sym same) first
        | inr past_0 ↦
            elim (cases_eq tier 1) [
              | inl same ↦ subst (λ n. length (places_in (a ∷ b ∷ c ∷ []) n) ≡ tier_size sizes n) (sym same) second
              | inr past_1 ↦
                  elim (cases_eq tier 2) [
                    | inl same ↦ subst (λ n. length (places_in (a ∷ b ∷ c ∷ []) n) ≡ tier_size sizes n) (sym same) third
                    | inr past_2 ↦
                        let past : 3 ≤ tier = above tier past_0 past_1 past_2 in
                        ap length (get_or_past (a ∷ b ∷ c ∷ []) tier [] past) ∙ sym (past_last sizes tier past)
                  ]
            ]
      ];
}
  where
    above : (n : ℕ) → (n ≡ 0 → ⊥) → (n ≡ 1 → ⊥) → (n ≡ 2 → ⊥) → 3 ≤ n
    above n no_0 no_1 no_2 = elim (cases_lt n 3) [
      | inl below ↦ absurd (at n no_0 no_1 no_2 below)
      | inr past ↦ past
    ]
      where
        at : (m : ℕ) → (m ≡ 0 → ⊥) → (m ≡ 1 → ⊥) → (m ≡ 2 → ⊥) → m < 3 → ⊥
        at zero no_0 no_1 no_2 below = no_0 refl
        at (suc zero) no_0 no_1 no_2 below = no_1 refl
        at (suc (suc zero)) no_0 no_1 no_2 below = no_2 refl
        at (suc (suc (suc m))) no_0 no_1 no_2 below = omega (arith, below)

pub fresh_is : (sizes : TierSizes) (first second third : TierShown)
    → first ≡ record { places = replicate sizes.first true; blocks = empty } → second ≡ record { places = replicate sizes.second true; blocks = empty }
    → third ≡ record { places = replicate sizes.third true; blocks = empty }
    → ◌≡◌ {A = TiersShown} (record { sizes = sizes; free = free_of (first ∷ second ∷ third ∷ []); devices = devices_of (first ∷ second ∷ third ∷ []) })
    (new_tiers sizes)
unfolding devices_from with_slots
fresh_is sizes first second third a b c = λ i. record { sizes = sizes; free = free_of (a i ∷ b i ∷ c i ∷ []); devices = devices_of (a i ∷ b i ∷ c i ∷ []) }

-- one free place can be taken, and one used place given back
pub can_take : (free : List (List Bool)) (place : Place) → is_free_at free place ≡ true → CanMove free [] (place ∷ [])
unfolding with_places
can_take free place is = record {
  given_used = λ k d below. absurd (omega (arith, below));
  given_once = tt;
  taken_free = λ k d below. first k d below;
  taken_once = (refl, tt);
}
  where
    first : (k : ℕ) (d : Place) → k < 1 → is_free_at free (get_or (place ∷ []) k d) ≡ true
    first zero d below = is
    first (suc k) d below = absurd (omega (arith, below))

pub can_give_back : (free : List (List Bool)) (place : Place) → IsInTier free place → is_free_at free place ≡ false → CanMove free (place ∷ []) []
can_give_back free place inside is = record {
  given_used = λ k d below. first k d below;
  given_once = (refl, tt);
  taken_free = λ k d below. absurd (omega (arith, below));
  taken_once = tt;
}
  where
    first : (k : ℕ) (d : Place) → k < 1 → IsInTier free (get_or (place ∷ []) k d) × (is_free_at free (get_or (place ∷ []) k d) ≡ false)
    first zero d below = (inside, is)
    first (suc k) d below = absurd (omega (arith, below))
