-- The free places of the first tier, found one after the other.
use Rattle.std.proofs.Common.{◌≡◌, ℕ, zero, suc, ◌+◌, ◌-◌, ◌<◌, ◌≤◌, ◌++◌, Bool, true, false, cond, List, [], ◌∷◌, length, take, filter, refl, sym, ap, ◌∙◌, append_assoc, arith}
use Rattle.std.proofs.lemmas.Bool.{both_ways}
use Rattle.std.proofs.lemmas.List.{append-nil, take_all, take_at}
use Rattle.kfs_model.specs.Placement.{TierSizes, Placement, tier_size, is_free, numbers_from}
use Rattle.kfs_image.specs.Tier.Unused.{unused_places, IsNextUnused, AreTakenFrom}

module _ (passes : ℕ → Bool) where
  next_passes : (count from place : ℕ) → from ≤ place → place < from + count → passes place ≡ true
      → ((other : ℕ) → from ≤ other → other < from + count → passes other ≡ true → place ≤ other)
      → filter passes (numbers_from from count) ≡ place ∷ filter passes (numbers_from (place + 1) (from + count - (place + 1)))
  next_passes zero from place reached inside pass least = absurd (omega (arith, reached, inside))
  next_passes (suc count) from place reached inside pass least = at (passes from) refl
      (λ further. next_passes count (from + 1) place further (omega (arith, inside)) pass (λ n from_on below. least n (omega (arith, from_on)) (omega (arith, below))))
    where
      at : (b : Bool) → passes from ≡ b
          → (from + 1 ≤ place → filter passes (numbers_from (from + 1) count) ≡ place ∷ filter passes (numbers_from (place + 1) (from + 1 + count - (place + 1))))
          → cond b (from ∷ filter passes (numbers_from (from + 1) count)) (filter passes (numbers_from (from + 1) count)) ≡ place ∷ filter passes (numbers_from (place + 1) (from + suc count - (place + 1)))
      at true is later =
          let lowest : place ≤ from = least from (omega arith) (omega arith) is in
          let same : from ≡ place = omega (arith, lowest, reached) in
          let left : count ≡ from + suc count - (place + 1) = omega (arith, same) in
          λ i. same i ∷ filter passes (numbers_from (same i + 1) (left i))
      at false is later =
          let other : from ≡ place → ⊥ = λ same. both_ways (passes from) is (ap passes same ∙ pass) in
          let further : from + 1 ≤ place = omega (arith, other, reached) in
          let left : from + 1 + count - (place + 1) ≡ from + suc count - (place + 1) = omega arith in
          later further
          ∙ ap (λ n. place ∷ filter passes (numbers_from (place + 1) n)) left

  none_passes : (count from : ℕ) → ((other : ℕ) → from ≤ other → other < from + count → passes other ≡ false) → filter passes (numbers_from from count) ≡ []
  none_passes zero from none = refl
  none_passes (suc count) from none =
      ap (λ b. cond b (from ∷ filter passes (numbers_from (from + 1) count)) (filter passes (numbers_from (from + 1) count))) (none from (omega arith) (omega arith))
      ∙ none_passes count (from + 1) (λ n from_on below. none n (omega (arith, from_on)) (omega (arith, below)))

module _ (sizes : TierSizes) (placement : Placement) where
  -- the unused places of the first tier from this one on
  abbrev pub unused_from : (from : ℕ) → List ℕ
  unused_from from = filter (λ place. is_free placement (record { tier = 0; place = place })) (numbers_from from (tier_size sizes 0 - from))

  -- those found so far, with those that are left
  abbrev pub AreFound : (found : List ℕ) (from : ℕ) → Type 0
  AreFound found from = unused_places sizes placement 0 ≡ found ++ unused_from from

  module _ (found : List ℕ) (from : ℕ) (so_far : AreFound found from) where
    pub found_next : (place : ℕ) → IsNextUnused sizes placement 0 from place → AreFound (found ++ place ∷ []) (place + 1)
    found_next place next =
        so_far
        ∙ ap (λ places. found ++ places)
        (next_passes (λ p. is_free placement (record { tier = 0; place = p })) (tier_size sizes 0 - from) from place next.reached (omega (arith, next.reached, next.in_tier)) next.unused
        (λ n from_on below. next.least n from_on (omega (arith, below)))
        ∙ ap (λ n. place ∷ filter (λ p. is_free placement (record { tier = 0; place = p })) (numbers_from (place + 1) n))
        (let left : from + (tier_size sizes 0 - from) - (place + 1) ≡ tier_size sizes 0 - (place + 1) = omega (arith, next.reached, next.in_tier) in left))
        ∙ sym (append_assoc found (place ∷ []) (unused_from (place + 1)))

    -- as many as are wanted
    pub found_enough : (count : ℕ) → length found ≡ count → found ≡ take count (unused_places sizes placement 0)
    found_enough count long = sym (ap (take count) so_far ∙ take_at found (unused_from from) count long)

    found_all : (count : ℕ) → length found ≤ count → unused_from from ≡ [] → found ≡ take count (unused_places sizes placement 0)
    found_all count few none =
        sym (ap (take count) (so_far ∙ ap (λ places. found ++ places) none ∙ append-nil found) ∙ take_all count found few)

    -- all that there are
    pub found_last : (count : ℕ) → length found ≤ count → AreTakenFrom sizes placement 0 from → found ≡ take count (unused_places sizes placement 0)
    found_last count few taken = found_all count few (none_passes _ (tier_size sizes 0 - from) from (λ n from_on below. taken n from_on (omega (arith, below))))

    pub found_end : (count : ℕ) → length found ≤ count → tier_size sizes 0 ≤ from → found ≡ take count (unused_places sizes placement 0)
    found_end count few past = found_all count few (none_passes _ (tier_size sizes 0 - from) from (λ n from_on below. absurd (omega (arith, from_on, below, past))))
