-- Two words as bytes.
use Rattle.std.proofs.Common.{◌≡◌, ℕ, nat_lt, Bool, true, false, List, [], ◌∷◌, length, Option, Some, None, option_map, refl, ap, ◌∙◌, if◌then◌else◌}
use Rattle.kfs_model.specs.Steps.{◌>>=◌}
use Rattle.kfs_program_text.specs.Decimals.{hexadecimal}
use Rattle.kfs_program_text.specs.Reading.{both_hexadecimal, ended, first_by}

abbrev pub word_in : List (List ℕ) → Option (List ℕ × List (List ℕ))
word_in words = first_by (λ word. Some word) words

-- what was read, and the words behind it
abbrev pub with_left : {T : Type 0} → Option T → List (List ℕ) → Option (T × List (List ℕ))
with_left read left = option_map (λ x. (x, left)) read

abbrev pub with_left_if : {T : Type 0} → Bool → Option T → List (List ℕ) → Option (T × List (List ℕ))
with_left_if some read left = if some then with_left read left else None

-- what the reading makes of the first word, which is known
pub first_read : {T : Type 0} (read : List ℕ → Option T) (words : List (List ℕ)) (word : List ℕ) (left : List (List ℕ)) → word_in words ≡ Some (word, left)
    → first_by read words ≡ with_left (read word) left
unfolding first_by
first_read read [] word left is = cc
first_read read (first ∷ words) word left is = by (nat_lt 0 (length first)) is
  where
    by : (some : Bool) → with_left_if some (Some first) words ≡ Some (word, left) → with_left_if some (read first) words ≡ with_left (read word) left
    by true same =
        let pair : ◌≡◌ {A = List ℕ × List (List ℕ)} (first, words) (word, left) = cc in
        ap (λ p. with_left (read p.0) p.1) pair
    by false same = cc

first_none : {T : Type 0} (read : List ℕ → Option T) (words : List (List ℕ)) → word_in words ≡ None → first_by read words ≡ None
unfolding first_by
first_none read [] is = refl
first_none read (first ∷ words) is = by (nat_lt 0 (length first)) is
  where
    by : (some : Bool) → with_left_if some (Some first) words ≡ None → with_left_if some (read first) words ≡ None
    by true same = cc
    by false same = refl

-- ---- the second word, and no other

abbrev pub behind_back : List ℕ → Option (List ℕ × List (List ℕ)) → Option (List ℕ × List ℕ)
behind_back front read = read >>= λ back. ended back.1 >>= λ done. Some (front, back.0)

abbrev pub behind_front : Option (List ℕ × List (List ℕ)) → Option (List ℕ × List ℕ)
behind_front read = read >>= λ front. behind_back front.0 (first_by hexadecimal front.1)

pub no_front : (words : List (List ℕ)) → word_in words ≡ None → both_hexadecimal words ≡ None
no_front words is = ap behind_front (first_none hexadecimal words is)

module _ (words : List (List ℕ)) (front : List ℕ) (rest : List (List ℕ)) (first : word_in words ≡ Some (front, rest)) where
  pub no_back : word_in rest ≡ None → both_hexadecimal words ≡ None
  no_back is = ap behind_front (first_read hexadecimal words front rest first) ∙ by (hexadecimal front)
    where
      by : (read : Option (List ℕ)) → behind_front (with_left read rest) ≡ None
      by None = refl
      by (Some x) = ap (behind_back x) (first_none hexadecimal rest is)
