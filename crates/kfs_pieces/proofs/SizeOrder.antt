-- Sizes in ascending order: where a number stands, and what the ranges below them are.
use Rattle.std.proofs.Common.{◌≡◌, ℕ, zero, suc, ◌+◌, ◌<◌, ◌≤◌, ◌==◌, Bool, true, false, cond, ltb, List, [], ◌∷◌, length, get_or, refl, sym, ap, ◌∙◌, arith}
use Rattle.std.specs.List.{AllByRecursion}
use Rattle.std.specs.List.Sorted.{IsPartitionedBy, IsPartitionPoint}
use Rattle.std.proofs.lemmas.Bool.{eq-eqb, ne_eqb, lt-ltb, ltb-true, ltb-false}
use Rattle.kfs_model.specs.Limits.{size_limit}
use Rattle.kfs_pieces.specs.declared.log.FileSize.{FileSize}
use Rattle.kfs_pieces.specs.Sizes.{SizesAscend, IsSize, length_after}

-- ---- in order

-- each number is at least the least
least_of : (least : ℕ) (ss : List FileSize) (i : ℕ) (d : FileSize) → SizesAscend least ss → i < length ss → least ≤ (get_or ss i d).number
least_of least [] i d order below = absurd (omega arith)
least_of least (s ∷ ss) zero d order below = order.0
least_of least (s ∷ ss) (suc i) d order below =
    let first = order.0 in
    let later = least_of (s.number + 1) ss i d order.1 (omega arith) in
    omega arith

numbers_rise : (least : ℕ) (ss : List FileSize) (i j : ℕ) (d : FileSize) → SizesAscend least ss → i ≤ j → j < length ss → (get_or ss i d).number ≤ (get_or ss j d).number
numbers_rise least [] i j d order h below = absurd (omega arith)
numbers_rise least (s ∷ ss) zero zero d order h below = let same : s.number ≤ s.number = omega arith in same
numbers_rise least (s ∷ ss) zero (suc j) d order h below = let later = least_of (s.number + 1) ss j d order.1 (omega arith) in omega arith
numbers_rise least (s ∷ ss) (suc i) zero d order h below = absurd (omega arith)
numbers_rise least (s ∷ ss) (suc i) (suc j) d order h below = numbers_rise (s.number + 1) ss i j d order.1 (omega arith) (omega arith)

-- ---- where a number stands

-- below the first number there is none
none_smaller : (least number : ℕ) (ss : List FileSize) → SizesAscend least ss → number < least → length_after ss number ≡ 0
none_smaller least number [] order below = refl
none_smaller least number (s ∷ ss) order below =
    let first = order.0 in
    ap (λ b. cond b s.after (length_after ss number)) (ne_eqb s.number number (λ same. let b : ⊥ = omega arith in b))
    ∙ none_smaller (s.number + 1) number ss order.1 (omega arith)

module _ (number : ℕ) where
  abbrev pub is_smaller : FileSize → Bool
  is_smaller s = ltb s.number number

  pub parted : (least : ℕ) (ss : List FileSize) → SizesAscend least ss → IsPartitionedBy is_smaller ss
  parted least ss order i j d h below smaller =
      let rise = numbers_rise least ss i j d order h below in
      let last = ltb-true (get_or ss j d).number number smaller in
      lt-ltb (get_or ss i d).number number (omega arith)

  abbrev Parts : List FileSize → (place : ℕ) → Type 0
  Parts ss i = IsPartitionPoint (λ s. is_smaller s ≡ true) (λ s. is_smaller s ≡ false) ss i

  parts_on : (s : FileSize) (ss : List FileSize) (i : ℕ) → Parts (s ∷ ss) (suc i) → Parts ss i
  parts_on s ss i part = ((λ k d low high. part.0 (suc k) d (omega arith) (omega arith)), (λ k d low high. part.1 (suc k) d (omega arith) (omega arith)))

  -- a smaller one isn't the number's
  passed : (s : FileSize) (ss : List FileSize) (i : ℕ) → Parts (s ∷ ss) (suc i) → length_after (s ∷ ss) number ≡ length_after ss number
  passed s ss i part =
      let smaller = ltb-true s.number number (part.0 0 s (omega arith) (omega arith)) in
      ap (λ b. cond b s.after (length_after ss number)) (ne_eqb s.number number (λ e. let b : ⊥ = omega arith in b))

  -- the size is that of the first number which isn't smaller, if it is the number
  pub size_at : (least : ℕ) (ss : List FileSize) (i : ℕ) → SizesAscend least ss → Parts ss i → (size : FileSize) → i < length ss → get_or ss i size ≡ size → size.number ≡ number → length_after ss number ≡ size.after
  size_at least [] i order part size below is same = absurd (omega arith)
  size_at least (s ∷ ss) zero order part size below is same =
      ap (λ b. cond b s.after (length_after ss number)) (eq-eqb s.number number (ap (λ (s : FileSize). s.number) is ∙ same)) ∙ ap (λ (s : FileSize). s.after) is
  size_at least (s ∷ ss) (suc i) order part size below is same = passed s ss i part ∙ size_at (s.number + 1) ss i order.1 (parts_on s ss i part) size (omega arith) is same

  -- and else it is 0
  pub other_size : (least : ℕ) (ss : List FileSize) (i : ℕ) → SizesAscend least ss → Parts ss i → (size : FileSize) → i < length ss → get_or ss i size ≡ size → (size.number ≡ number → ⊥) → length_after ss number ≡ 0
  other_size least [] i order part size below is other = refl
  other_size least (s ∷ ss) zero order part size below is other =
      let large = ltb-false s.number number (part.1 0 s (omega arith) (omega arith)) in
      ap (λ b. cond b s.after (length_after ss number)) (ne_eqb s.number number (λ same. other (ap (λ (s : FileSize). s.number) (sym is) ∙ same)))
      ∙ none_smaller (s.number + 1) number ss order.1 (let below : number < s.number + 1 = omega arith in below)
  other_size least (s ∷ ss) (suc i) order part size below is other = passed s ss i part ∙ other_size (s.number + 1) ss i order.1 (parts_on s ss i part) size (omega arith) is other

  pub all_smaller : (ss : List FileSize) (i : ℕ) → Parts ss i → length ss ≤ i → length_after ss number ≡ 0
  all_smaller [] i part past = refl
  all_smaller (s ∷ ss) zero part past = absurd (omega arith)
  all_smaller (s ∷ ss) (suc i) part past = passed s ss i part ∙ all_smaller ss i (parts_on s ss i part) (omega arith)

-- no size is over the limit
pub size_is_short : (ss : List FileSize) (number : ℕ) → AllByRecursion IsSize ss → length_after ss number ≤ size_limit
size_is_short [] number all = let none : 0 ≤ size_limit = omega arith in none
size_is_short (s ∷ ss) number all = at (s.number == number) (size_is_short ss number all.1)
  where
    at : (b : Bool) → length_after ss number ≤ size_limit → cond b s.after (length_after ss number) ≤ size_limit
    at true later = all.0
    at false later = later
