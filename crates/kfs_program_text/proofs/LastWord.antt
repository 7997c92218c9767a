-- All that is left of a line as bytes: text with a space in it isn't hexadecimal.
use Rattle.std.proofs.Common.{◌≡◌, ℕ, ◌+◌, ◌<◌, ◌==◌, Bool, true, false, List, [], ◌∷◌, length, get_or, take, drop, position, codes, bytes_eq, nat_lt, Option, Some, None, Result, Ok, Err, refl, sym, ap, ◌∙◌, arith}
use mathlib.Core.Bool.{true≢false}
use Rattle.std.specs.List.{AllPass}
use Rattle.std.proofs.lemmas.Bool.{lt-ltb}
use Rattle.std.proofs.lemmas.Bool.Decides.{nat_tests}
use Rattle.std.proofs.lemmas.List.Quantifiers.{position-Some}
use Rattle.std.proofs.lemmas.Slice.Eq.{bytes_eq-Decides}
use Rattle.hex.specs.Hex.{decode_of, is_hex_digit}
use Rattle.hex.specs.declared.error.FromHexError.{FromHexError}
use Rattle.hex.proofs.HexLemmas.{decode_of-ok}
use Rattle.kfs_model.specs.Steps.{◌>>=◌}
use Rattle.kfs_program_text.specs.Cut.{cut, space}
use Rattle.kfs_program_text.specs.Decimals.{both_of, hexadecimal}
use Rattle.kfs_program_text.specs.Reading.{both_hexadecimal, ended, first_by}
use Rattle.kfs_program_text.proofs.BothWords.{behind_back, behind_front, first_read, with_left, with_left_if, word_in}
use Rattle.kfs_program_text.proofs.WordsCut.{cut_at, cut_not_ended, uncut}

abbrev is_space : ℕ → Bool
is_space byte = byte == space

abbrev unless_bad : Result (List ℕ) FromHexError → Option (List ℕ)
unless_bad decoded = elim decoded [ Ok bytes ↦ Some bytes | Err fault ↦ None ]

module _ (text : List ℕ) (place : ℕ) (at : position is_space text ≡ Some place) where
  not_digits : AllPass is_hex_digit text → ⊥
  not_digits are =
      let here = position-Some is_space text place 0 at in
      let byte : get_or text place 0 ≡ space = grind (arith, nat_tests, here.1) in
      true≢false (sym (are place 0 here.0) ∙ ap is_hex_digit byte)

  spaced : hexadecimal text ≡ None
  spaced = by (bytes_eq text (codes "-")) refl
    where
      decoded : (r : Result (List ℕ) FromHexError) → decode_of text ≡ r → unless_bad r ≡ None
      decoded (Ok bytes) is = absurd (not_digits (decode_of-ok text bytes is).1)
      decoded (Err fault) is = refl

      no_dash : text ≡ codes "-" → ⊥
      no_dash same = let found : position is_space (codes "-") ≡ Some place = ap (position is_space) (sym same) ∙ at in cc

      by : (dash : Bool) → bytes_eq text (codes "-") ≡ dash → hexadecimal text ≡ None
      by true is = absurd (no_dash ((bytes_eq-Decides text (codes "-")).0 is))
      by false is = rw is (decoded (decode_of text) refl)

alone : (front text : List ℕ) → 0 < length text → behind_back front (first_by hexadecimal (text ∷ [])) ≡ (hexadecimal text >>= λ back. Some (front, back))
unfolding first_by ended
alone front text some = ap (λ b. behind_back front (with_left_if b (hexadecimal text) [])) (lt-ltb 0 (length text) some) ∙ by (hexadecimal text)
  where
    by : (read : Option (List ℕ)) → behind_back front (with_left read []) ≡ (read >>= λ back. Some (front, back))
    by None = refl
    by (Some back) = refl

more : (front word : List ℕ) (left : List (List ℕ)) → ended left ≡ None → behind_back front (first_by hexadecimal (word ∷ left)) ≡ None
unfolding first_by
more front word left others = by (nat_lt 0 (length word)) (hexadecimal word)
  where
    by : (some : Bool) (read : Option (List ℕ)) → behind_back front (with_left_if some read left) ≡ None
    by false read = refl
    by true None = refl
    by true (Some back) = ap (λ done. done >>= λ d. Some (front, back)) others

last_read : (front text : List ℕ) → 0 < length text → behind_back front (first_by hexadecimal (cut space text)) ≡ (hexadecimal text >>= λ back. Some (front, back))
last_read front text some = by (position is_space text) refl
  where
    by : (found : Option ℕ) → position is_space text ≡ found → behind_back front (first_by hexadecimal (cut space text)) ≡ (hexadecimal text >>= λ back. Some (front, back))
    by None is = ap (λ words. behind_back front (first_by hexadecimal words)) (uncut space text is) ∙ alone front text some
    by (Some place) is =
        ap (λ words. behind_back front (first_by hexadecimal words)) (cut_at space text place is)
        ∙ more front (take place text) (cut space (drop (place + 1) text)) (cut_not_ended space (drop (place + 1) text))
        ∙ sym (ap (λ read. read >>= λ back. Some (front, back)) (spaced text place is))

pub two_words : (words : List (List ℕ)) (front text : List ℕ) (rest : List (List ℕ)) → word_in words ≡ Some (front, rest) → rest ≡ cut space text → 0 < length text → both_hexadecimal words ≡ both_of front text
two_words words front text rest first left some = ap behind_front (first_read hexadecimal words front rest first) ∙ by (hexadecimal front)
  where
    by : (read : Option (List ℕ)) → behind_front (with_left read rest) ≡ (read >>= λ x. hexadecimal text >>= λ y. Some (x, y))
    by None = refl
    by (Some x) = ap (λ words. behind_back x (first_by hexadecimal words)) left ∙ last_read x text some
