-- What the bits of places are once a word is written, and where the next clear one is.
use Rattle.std.proofs.Common.{◌≡◌, ◌≢◌, ℕ, ◌+◌, ◌-◌, ◌*◌, ◌/◌, ◌%◌, ◌^◌, ◌<◌, ◌≤◌, ◌==◌, Bool, true, false, cond, List, length, get_or, set, sym, ap, subst, ◌∙◌, arith, inl, inr}
use Rattle.std.specs.Int.{w64, bit_at, bit_not, trailing_ones}
use Rattle.std.specs.Prelude.{bit_and, bit_or}
use Rattle.std.proofs.lemmas.Bool.{cases_eq, cases_lt, eq-eqb, ne_eqb, cond-true, cond-false}
use Rattle.std.proofs.lemmas.List.{get_or-set_same, get_or-set_other}
use Rattle.std.proofs.lemmas.Nat.{one_shl}
use Rattle.std.proofs.lemmas.Nat.Bits.{bit_at-zero, bit_at_or, bit_at_ones, bit_at_ones_above, bit_at_set_same, bit_at_set_other, bit_at_clear_same, bit_at_clear_other, bit_at-trailing_ones}
use Rattle.kfs_image.specs.Tier.Words.{is_marked, IsNextClear}

same_spot : (q place : ℕ) → q / 64 ≡ place / 64 → q % 64 ≡ place % 64 → q ≡ place
same_spot q place word bit = omega arith

-- in the word that is written only the place's bit changes
is_marked-set : (words : List ℕ) (place word : ℕ) (used : Bool) → place < 64 * length words → (bit_at word (place % 64) == 1) ≡ used
    → ((i : ℕ) → i < 64 → i ≢ place % 64 → bit_at word i ≡ bit_at (get_or words (place / 64) 0) i)
    → (q : ℕ) → is_marked (set words (place / 64) word) q ≡ cond (q == place) used (is_marked words q)
is_marked-set words place word used within at others q =
    elim (cases_eq q place) [
      | inl same ↦
          subst (λ p. is_marked (set words (place / 64) word) p ≡ used) (sym same)
          (ap (λ w. bit_at w (place % 64) == 1) (get_or-set_same words (place / 64) word 0 (omega arith)) ∙ at)
          ∙ sym (cond-true (q == place) used (is_marked words q) (eq-eqb q place same))
      | inr other ↦
          elim (cases_eq (q / 64) (place / 64)) [
            | inl same_word ↦
                ap (λ i. bit_at (get_or (set words (place / 64) word) i 0) (q % 64) == 1) same_word
                ∙ ap (λ w. bit_at w (q % 64) == 1) (get_or-set_same words (place / 64) word 0 (omega arith))
                ∙ ap (λ b. b == 1) (others (q % 64) (omega arith) (λ same_bit. other (same_spot q place same_word same_bit)))
                ∙ ap (λ i. bit_at (get_or words i 0) (q % 64) == 1) (sym same_word)
            | inr other_word ↦ ap (λ w. bit_at w (q % 64) == 1) (get_or-set_other words (place / 64) (q / 64) word 0 other_word)
          ]
          ∙ sym (cond-false (q == place) used (is_marked words q) (ne_eqb q place other))
    ]

pub is_marked-mark : (words : List ℕ) (place : ℕ) → place < 64 * length words
    → (q : ℕ) → is_marked (set words (place / 64) (bit_or (get_or words (place / 64) 0) (1 * 2 ^ (place % 64) % 2 ^ 64))) q ≡ cond (q == place) true (is_marked words q)
is_marked-mark words place within =
    let n = get_or words (place / 64) 0 in
    is_marked-set words place (bit_or n (1 * 2 ^ (place % 64) % 2 ^ 64)) true within
    (ap (λ b. b == 1) (bit_at_set_same w64 n (place % 64) (omega arith)))
    (λ i below other. bit_at_set_other w64 n (place % 64) (omega arith) i other)

pub is_marked-clear : (words : List ℕ) (place : ℕ) → place < 64 * length words
    → (q : ℕ) → is_marked (set words (place / 64) (bit_and (get_or words (place / 64) 0) (bit_not w64 (1 * 2 ^ (place % 64) % 2 ^ 64)))) q ≡ cond (q == place) false (is_marked words q)
is_marked-clear words place within =
    let n = get_or words (place / 64) 0 in
    is_marked-set words place (bit_and n (bit_not w64 (1 * 2 ^ (place % 64) % 2 ^ 64))) false within
    (ap (λ b. b == 1) (bit_at_clear_same w64 n (place % 64) (omega arith)))
    (λ i below other. bit_at_clear_other w64 n (place % 64) (omega arith) i below other)

-- no place from `from` on has a clear bit in the words before this one, and in this one the bits of the places before `from` are passed over
pub record HasPassed (words : List ℕ) (from index passed : ℕ) : Type 0 where
  pub behind : (q : ℕ) → from ≤ q → q < 64 * index → is_marked words q ≡ true
  pub before : (i : ℕ) → i < 64 → 64 * index + i < from → bit_at passed i ≡ 1
  pub after : (i : ℕ) → i < 64 → from ≤ 64 * index + i → bit_at passed i ≡ 0

pub passed_first : (words : List ℕ) (from : ℕ) → HasPassed words from (from / 64 + 0) (1 * 2 ^ (from % 64) % 2 ^ 64 - 1)
passed_first words from =
    let low : 1 * 2 ^ (from % 64) % 2 ^ 64 ≡ 2 ^ (from % 64) = one_shl (from % 64) 64 (omega arith) in
    record {
      behind = λ q reached before. absurd (omega arith);
      before = λ i below early. ap (λ n. bit_at (n - 1) i) low ∙ bit_at_ones (from % 64) i (omega arith);
      after = λ i below late. ap (λ n. bit_at (n - 1) i) low ∙ bit_at_ones_above (from % 64) i (omega arith);
    }

-- the place of a bit
spot_of : (index i : ℕ) → i < 64 → ((64 * index + i) / 64 ≡ index) × ((64 * index + i) % 64 ≡ i)
spot_of index i below = (omega arith, omega arith)

-- the word of this index, as the words have it
module _ (words : List ℕ) (from index passed word : ℕ) (has : HasPassed words from index passed) (own : word ≡ get_or words index 0) where
  -- a bit that is set and not passed over is the place's own
  marked_here : (q : ℕ) → from ≤ q → q / 64 ≡ index → bit_at (bit_or word passed) (q % 64) ≡ 1 → is_marked words q ≡ true
  marked_here q reached here set =
      let none : bit_at passed (q % 64) ≡ 0 = has.after (q % 64) (omega arith) (omega arith) in
      let both = sym (bit_at_or word passed (q % 64)) ∙ set in
      let bit : bit_at word (q % 64) ≡ 1 = omega arith in
      ap (λ i. bit_at (get_or words i 0) (q % 64) == 1) here ∙ ap (λ w. bit_at w (q % 64) == 1) (sym own) ∙ ap (λ b. b == 1) bit

  pub passed_next : from / 64 ≤ index → bit_or word passed ≡ 2 ^ 64 - 1 → HasPassed words from (index + 1) 0
  passed_next begun full = record {
    behind = λ q reached before.
        elim (cases_lt q (64 * index)) [
          | inl earlier ↦ has.behind q reached earlier
          | inr here ↦ marked_here q reached (omega arith) (ap (λ w. bit_at w (q % 64)) full ∙ bit_at_ones 64 (q % 64) (omega arith))
        ];
    before = λ i below early. absurd (omega arith);
    after = λ i below late. bit_at-zero i;
  }

  pub found_clear : index < length words → bit_or word passed + 1 < 2 ^ 64 → IsNextClear words from (64 * index + trailing_ones w64 (bit_or word passed))
  found_clear inside short =
      let bit = trailing_ones w64 (bit_or word passed) in
      let lowest = bit_at-trailing_ones w64 (bit_or word passed) short in
      let spot = spot_of index bit lowest.0 in
      let both = sym (bit_at_or word passed bit) ∙ lowest.1 in
      let clear : bit_at word bit ≡ 0 = omega arith in
      let not_passed : bit_at passed bit ≡ 0 = omega arith in
      record {
        reached = elim (cases_lt (64 * index + bit) from) [
          | inl early ↦ absurd (omega (arith, has.before bit lowest.0 early))
          | inr late ↦ late
        ];
        within = omega arith;
        clear =
            ap (λ k. bit_at (get_or words k 0) ((64 * index + bit) % 64) == 1) spot.0
            ∙ ap (λ k. bit_at (get_or words index 0) k == 1) spot.1
            ∙ ap (λ w. bit_at w bit == 1) (sym own)
            ∙ ap (λ b. b == 1) clear;
        least = λ other reached earlier.
            elim (cases_lt other (64 * index)) [
              | inl behind ↦ has.behind other reached behind
              | inr here ↦ marked_here other reached (omega arith) (lowest.2 (other % 64) (omega arith))
            ];
      }
