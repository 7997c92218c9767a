-- What words of bits list as free places, and how many they are.
use Rattle.std.proofs.Common.{◌≡◌, ℕ, ◌+◌, ◌*◌, ◌/◌, ◌%◌, ◌<◌, ◌≤◌, ◌==◌, Bool, true, false, cond, not, ◌&&◌, ltb, List, length, get_or, set, replicate, min, ◌-◌, refl, sym, ap, subst, ◌∙◌, arith, inl, inr}
use Rattle.std.specs.Int.{bit_at}
use Rattle.std.proofs.lemmas.Bool.{cases_eq, cases_lt, eq-eqb, ne_eqb, cond-true, cond-false, lt-ltb, le-ltb, ltb-true, and_parts, both_ways}
use Rattle.std.proofs.lemmas.List.{ext_get_or, length-set, length-replicate, get_or-set_same, get_or-set_other, get_or-replicate, get_or_past}
use Rattle.std.proofs.lemmas.List.FromFn.{length-map-range_with_len, get_or-map-range_with_len}
use Rattle.std.proofs.lemmas.List.Folds.{sum_by-replicate}
use Rattle.std.proofs.lemmas.List.Sums.{sum_by-set, count_by-le-length}
use Rattle.std.proofs.lemmas.Nat.Bits.{bit_at-zero}
use Rattle.kfs_image.specs.Tier.Places.{is_free_in, free_count, IsNextFree, AreUsedFrom}
use Rattle.kfs_image.specs.Tier.Words.{is_marked, places_of, AreCounted, IsNextClear}

pub length-places_of : (words : List ℕ) (size : ℕ) → length (places_of words size) ≡ size
unfolding places_of
length-places_of words size = length-map-range_with_len (λ place. not (is_marked words place)) 0 size

at_place : (words : List ℕ) (size place : ℕ) → place < size → get_or (places_of words size) place false ≡ not (is_marked words place)
unfolding places_of
at_place words size place below = get_or-map-range_with_len (λ q. not (is_marked words q)) 0 size place place false below (omega arith)

pub is_free_in-places_of : (words : List ℕ) (size place : ℕ) → is_free_in (places_of words size) place ≡ (ltb place size && not (is_marked words place))
is_free_in-places_of words size place =
    elim (cases_lt place size) [
      | inl below ↦ at_place words size place below ∙ sym (ap (λ b. b && not (is_marked words place)) (lt-ltb place size below))
      | inr past ↦ get_or_past (places_of words size) place false (omega (arith, length-places_of words size)) ∙ sym (ap (λ b. b && not (is_marked words place)) (le-ltb place size past))
    ]

-- where one bit changes, one place does
places_of-change : (words new : List ℕ) (size place : ℕ) (used : Bool) → place < size → ((q : ℕ) → is_marked new q ≡ cond (q == place) used (is_marked words q))
    → places_of new size ≡ set (places_of words size) place (not used)
places_of-change words new size place used within changed =
    ext_get_or false (places_of new size) (set (places_of words size) place (not used))
    (length-places_of new size ∙ sym (length-set (places_of words size) place (not used) ∙ length-places_of words size))
    (λ q inside.
    let below : q < size = omega (arith, length-places_of new size) in
    at_place new size q below
    ∙ ap not (changed q)
    ∙ elim (cases_eq q place) [
      | inl same ↦
          ap not (cond-true (q == place) used (is_marked words q) (eq-eqb q place same))
          ∙ sym (ap (λ p. get_or (set (places_of words size) place (not used)) p false) same ∙ get_or-set_same (places_of words size) place (not used) false (omega (arith, length-places_of words size)))
      | inr other ↦
          ap not (cond-false (q == place) used (is_marked words q) (ne_eqb q place other))
          ∙ sym (get_or-set_other (places_of words size) place q (not used) false other ∙ at_place words size q below)
    ])

free_count-take : (places : List Bool) (place : ℕ) → place < length places → is_free_in places place ≡ true → free_count (set places place false) + 1 ≡ free_count places
free_count-take places place within free = omega (arith, sum_by-set (λ b. cond b 1 0) places place false false within, ap {B = ℕ} (λ b. cond b 1 0) free)

free_count-give_back : (places : List Bool) (place : ℕ) → place < length places → is_free_in places place ≡ false → free_count (set places place true) ≡ free_count places + 1
free_count-give_back places place within used = omega (arith, sum_by-set (λ b. cond b 1 0) places place true false within, ap {B = ℕ} (λ b. cond b 1 0) used)

free_count-le-length : (places : List Bool) → free_count places ≤ length places
free_count-le-length places = count_by-le-length (λ free. free) places

clear_words : (n i : ℕ) → get_or {A = ℕ} (replicate n 0) i 0 ≡ 0
clear_words n i = elim (cases_lt i n) [
  | inl below ↦ get_or-replicate n i 0 0 below
  | inr past ↦ get_or_past (replicate n 0) i 0 (omega (arith, length-replicate {A = ℕ} n 0))
]

pub places_of-clear : (n size : ℕ) → places_of (replicate n 0) size ≡ replicate size true
places_of-clear n size =
    ext_get_or false (places_of (replicate n 0) size) (replicate size true)
    (length-places_of (replicate n 0) size ∙ sym (length-replicate size true))
    (λ q inside.
    let below : q < size = omega (arith, length-places_of (replicate n 0) size) in
    at_place (replicate n 0) size q below
    ∙ ap (λ w. not (bit_at w (q % 64) == 1)) (clear_words n (q / 64))
    ∙ ap (λ b. not (b == 1)) (bit_at-zero (q % 64))
    ∙ sym (get_or-replicate size q true false below))

free_count-all : (size : ℕ) → free_count (replicate size true) ≡ size
free_count-all size = omega (arith, sum_by-replicate (λ b. cond b 1 0) size true)

module _ (words : List ℕ) (size from : ℕ) where
  marked_is_used : (q : ℕ) → is_marked words q ≡ true → is_free_in (places_of words size) q ≡ false
  marked_is_used q marked = is_free_in-places_of words size q ∙ ap (λ b. ltb q size && not b) marked ∙ never (ltb q size)
    where
      never : (b : Bool) → (b && false) ≡ false
      never true = refl
      never false = refl

  past_is_used : (q : ℕ) → size ≤ q → is_free_in (places_of words size) q ≡ false
  past_is_used q past = is_free_in-places_of words size q ∙ ap (λ b. b && not (is_marked words q)) (le-ltb q size past)

  pub next_free_found : (place : ℕ) → IsNextClear words from place → place < size → IsNextFree (places_of words size) from place
  next_free_found place next below = record {
    reached = next.reached;
    free = is_free_in-places_of words size place ∙ ap (λ b. b && not (is_marked words place)) (lt-ltb place size below) ∙ ap not next.clear;
    least = λ other reached free.
        elim (cases_lt other place) [
          | inl earlier ↦ absurd (both_ways (is_free_in (places_of words size) other) (marked_is_used other (next.least other reached earlier)) free)
          | inr later ↦ later
        ];
  }

  pub next_free_past : (place : ℕ) → IsNextClear words from place → size ≤ place → AreUsedFrom (places_of words size) from
  next_free_past place next past = λ q reached.
      elim (cases_lt q place) [
        | inl earlier ↦ marked_is_used q (next.least q reached earlier)
        | inr later ↦ past_is_used q (omega arith)
      ]

  pub next_free_none : size ≤ 64 * length words → ((q : ℕ) → from ≤ q → q < 64 * length words → is_marked words q ≡ true) → AreUsedFrom (places_of words size) from
  next_free_none covered marked = λ q reached.
      elim (cases_lt q (64 * length words)) [
        | inl inside ↦ marked_is_used q (marked q reached inside)
        | inr past ↦ past_is_used q (omega arith)
      ]

-- one bit was changed in the words that were seen, and a vector holds what came of them
module _ (words seen new held : List ℕ) (size place : ℕ) (read : seen ≡ words) (same : held ≡ new) (within : place < size) where
  pub places_of-held : (used : Bool) → ((q : ℕ) → is_marked new q ≡ cond (q == place) used (is_marked seen q)) → places_of held size ≡ set (places_of words size) place (not used)
  places_of-held used changed =
      ap (λ ws. places_of ws size) same ∙ places_of-change seen new size place used within changed
      ∙ ap (λ ws. set (places_of ws size) place (not used)) read

  inside : place < length (places_of words size)
  inside = omega (arith, length-places_of words size)

  module _ (free : ℕ) (counted : AreCounted words size free) where
    as_counted : (left : ℕ) → length new ≡ length seen → left ≡ free_count (places_of held size) → AreCounted held size left
    as_counted left as_long enough =
        let long = ap length same ∙ as_long ∙ ap length read in
        record { cover = omega (arith, counted.cover); close = omega (arith, counted.close); counted = enough }

    pub counted-take : is_free_in (places_of words size) place ≡ true → length new ≡ length seen → ((q : ℕ) → is_marked new q ≡ cond (q == place) true (is_marked seen q)) → AreCounted held size (free - 1)
    counted-take is_free as_long changed =
        as_counted (free - 1) as_long
        (omega (arith, counted.counted, ap free_count (places_of-held true changed), free_count-take (places_of words size) place inside is_free))

    pub counted-give_back : is_free_in (places_of words size) place ≡ false → length new ≡ length seen → ((q : ℕ) → is_marked new q ≡ cond (q == place) false (is_marked seen q)) → AreCounted held size (free + 1)
    counted-give_back is_used as_long changed =
        as_counted (free + 1) as_long
        (omega (arith, counted.counted, ap free_count (places_of-held false changed), free_count-give_back (places_of words size) place inside is_used))

    pub room-to_give_back : is_free_in (places_of words size) place ≡ false → free + 1 ≤ size
    room-to_give_back is_used =
        let more = free_count-give_back (places_of words size) place inside is_used in
        let most = free_count-le-length (set (places_of words size) place true) in
        omega (arith, more, most, length-set (places_of words size) place true, length-places_of words size, counted.counted)

pub free_is_below : (words : List ℕ) (size place : ℕ) → is_free_in (places_of words size) place ≡ true → place < size
free_is_below words size place free = ltb-true place size (and_parts (ltb place size) (not (is_marked words place)) (sym (is_free_in-places_of words size place) ∙ free)).0

pub counted-all : (words : List ℕ) (n size : ℕ) → words ≡ replicate n 0 → n ≡ size / 64 + min 1 (size % 64) → AreCounted words size size
counted-all words n size clear enough = subst (λ ws. AreCounted ws size size) (sym clear) (record {
  cover = omega (arith, length-replicate {A = ℕ} n 0);
  close = omega (arith, length-replicate {A = ℕ} n 0);
  counted = sym (ap free_count (places_of-clear n size) ∙ free_count-all size);
})

pub ruleset shown = (length-places_of, is_free_in-places_of)
