-- Pairs of digits by the tables, and pairs of which one byte is no digit.
use Rattle.std.proofs.Common.{◌≡◌, ℕ, ◌+◌, ◌*◌, ◌<◌, ◌≤◌, ◌%◌, ◌⊎◌, inl, inr, ⊎_elim, w8, bit_or, Fits, List, length, map, take, drop, Option, Some, None, Result, Ok, Err, refl, sym, subst, ap, ◌∙◌, arith}
use Rattle.std.proofs.Math.Facts.{Fits-lt-pow, Fits-below, Fits-or}
use Rattle.std.proofs.lemmas.Bool.Decides.{nat_tests}
use Rattle.std.proofs.lemmas.List.FromFn.{get_or-map-range_with_len}
use Rattle.std.specs.List.{range_with_len}
use Rattle.std.proofs.lemmas.Nat.{le_or_l, le_or_r}
use Rattle.std.specs.Prelude.{IsErr, slice_index, slice_set}
use Rattle.hex.specs.declared.error.FromHexError.{FromHexError}
use Rattle.hex.specs.Hex.{decode_pairs, hex_digit_value, pair_value}
use Rattle.hex.proofs.Pairs.{prepend, decode_err, decode_step}
use Rattle.kfs_model.proofs.Tape.{below_or_not}
use Rattle.kfs_program_text.specs.declared.digits.TheConstants.{HIGH, LOW}
use Rattle.kfs_program_text.specs.Digits.{scaled}

-- ---- the tables

abbrev worth : ℕ → ℕ → ℕ
worth scale digit = scaled scale (hex_digit_value digit)

high_table : HIGH ≡ map (worth 16) (range_with_len 0 256)
high_table = refl

low_table : LOW ≡ map (worth 1) (range_with_len 0 256)
low_table = refl

pub high_is : (digit : ℕ) → digit < 256 → slice_index HIGH digit ≡ scaled 16 (hex_digit_value digit)
high_is digit below = ap (λ table. slice_index table digit) high_table ∙ get_or-map-range_with_len (worth 16) 0 256 digit digit 0 below (omega arith)

pub low_is : (digit : ℕ) → digit < 256 → slice_index LOW digit ≡ scaled 1 (hex_digit_value digit)
low_is digit below = ap (λ table. slice_index table digit) low_table ∙ get_or-map-range_with_len (worth 1) 0 256 digit digit 0 below (omega arith)

-- ---- a pair

small_value : (digit value : ℕ) → hex_digit_value digit ≡ Some value → value < 16
small_value digit value is = grind (arith, nat_tests, is)

pub pair_most : (high low : ℕ) → worth 16 high + worth 1 low ≤ 512
pair_most high low = by (hex_digit_value high) (hex_digit_value low) refl refl
  where
    by : (h l : Option ℕ) → hex_digit_value high ≡ h → hex_digit_value low ≡ l → scaled 16 h + scaled 1 l ≤ 512
    by (Some v) (Some w) first second = let a = small_value high v first in let b = small_value low w second in omega (arith, a, b)
    by (Some v) None first second = let a = small_value high v first in omega (arith, a)
    by None (Some w) first second = let b = small_value low w second in omega (arith, b)
    by None None first second = omega arith

pub pair_read : (high low i : ℕ) → worth 16 high + worth 1 low < 256 → pair_value high low i ≡ Ok (worth 16 high + worth 1 low)
pair_read high low i = by (hex_digit_value high) (hex_digit_value low) refl refl
  where
    by : (h l : Option ℕ) → hex_digit_value high ≡ h → hex_digit_value low ≡ l → scaled 16 h + scaled 1 l < 256 → pair_value high low i ≡ Ok (scaled 16 h + scaled 1 l)
    by (Some v) (Some w) first second small = rw (first, second) (ap Ok (omega arith))
    by (Some v) None first second small = absurd (omega (arith, small))
    by None l first second small = absurd (omega (arith, small))

pub pair_bad : (high low i : ℕ) → 256 ≤ worth 16 high + worth 1 low → IsErr (pair_value high low i)
pair_bad high low i = by (hex_digit_value high) (hex_digit_value low) refl refl
  where
    by : (h l : Option ℕ) → hex_digit_value high ≡ h → hex_digit_value low ≡ l → 256 ≤ scaled 16 h + scaled 1 l → IsErr (pair_value high low i)
    by (Some v) (Some w) first second large = let a = small_value high v first in let b = small_value low w second in absurd (omega (arith, a, b, large))
    by (Some v) None first second large = rw (first, second) refl
    by None l first second large = rw first refl

-- ---- all pairs so far

both_small : (all byte : ℕ) → all < 256 → byte < 256 → bit_or all byte < 256
both_small all byte first second =
    let fits : Fits w8 (bit_or all byte) = Fits-or {a = all} {b = byte} (Fits-below {n = 255} tt (omega (arith, first))) (Fits-below {n = 255} tt (omega (arith, second))) in
    Fits-lt-pow fits

one_large : (all byte : ℕ) → 256 ≤ bit_or all byte → (256 ≤ all) ⊎ (256 ≤ byte)
one_large all byte large = ⊎_elim first inl (below_or_not all 256)
  where
    first : all < 256 → (256 ≤ all) ⊎ (256 ≤ byte)
    first small = ⊎_elim (λ too. let both = both_small all byte small too in absurd (omega (arith, both, large))) inr (below_or_not byte 256)

bad_pair : (word out : List ℕ) (i : ℕ) → 2 * i + 1 < length word → IsErr (pair_value (slice_index word (2 * i)) (slice_index word (2 * i + 1)) (2 * i))
    → decode_pairs 0 word ≡ prepend (take i out) (decode_pairs (2 * i) (drop (2 * i) word))
    → IsErr (decode_pairs 0 word)
bad_pair word out i fits bad so_far = at (pair_value (slice_index word (2 * i)) (slice_index word (2 * i + 1)) (2 * i)) refl bad
  where
    at : (r : Result ℕ FromHexError) → pair_value (slice_index word (2 * i)) (slice_index word (2 * i + 1)) (2 * i) ≡ r → IsErr r → IsErr (decode_pairs 0 word)
    at (Ok byte) is err = cc
    at (Err fault) is err = subst (λ (r : Result (List ℕ) FromHexError). IsErr r) (sym (decode_err word out i fault fits is so_far)) refl

-- ---- pairs read so far

-- the first `count` pairs are read: their bytes stand in `out`, or a pair isn't of digits
abbrev pub ArePairsRead : (word out : List ℕ) (count all : ℕ) → Type 0
ArePairsRead word out count all =
    (all < 256 → decode_pairs 0 word ≡ prepend (take count out) (decode_pairs (2 * count) (drop (2 * count) word)))
    × (256 ≤ all → IsErr (decode_pairs 0 word))

pub one_more_pair : (word out after : List ℕ) (i next all byte : ℕ)
    → length word ≡ 2 * length out → i < length out → next ≡ i + 1 → after ≡ slice_set out i (byte % 256)
    → (byte < 256 → (k : ℕ) → pair_value (slice_index word (2 * i)) (slice_index word (2 * i + 1)) k ≡ Ok byte)
    → (256 ≤ byte → (k : ℕ) → IsErr (pair_value (slice_index word (2 * i)) (slice_index word (2 * i + 1)) k))
    → ArePairsRead word out i all
    → ArePairsRead word after next (bit_or all byte)
one_more_pair word out after i next all byte pairs below follows put good bad so_far =
    subst (λ (o : List ℕ). ArePairsRead word o next (bit_or all byte)) (sym put) (subst (λ (n : ℕ). ArePairsRead word (slice_set out i (byte % 256)) n (bit_or all byte)) (sym follows) read)
  where
    yes : bit_or all byte < 256 → decode_pairs 0 word ≡ prepend (take (i + 1) (slice_set out i (byte % 256))) (decode_pairs (2 * (i + 1)) (drop (2 * (i + 1)) word))
    yes small =
        let before = le_or_l all byte in
        let this = le_or_r all byte in
        let fits : byte < 256 = omega (arith, this, small) in
        let same : byte ≡ byte % 256 = omega (arith, fits) in
        decode_step word out i (byte % 256) (omega (arith, pairs, below)) below (good fits (2 * i) ∙ ap Ok same) (so_far.0 (omega (arith, before, small)))

    no : 256 ≤ bit_or all byte → IsErr (decode_pairs 0 word)
    no large =
        ⊎_elim so_far.1
        (λ wrong. ⊎_elim
        (λ right. bad_pair word out i (omega (arith, pairs, below)) (bad wrong (2 * i)) (so_far.0 right))
        so_far.1
        (below_or_not all 256))
        (one_large all byte large)

    read : ArePairsRead word (slice_set out i (byte % 256)) (i + 1) (bit_or all byte)
    read = (yes, no)
