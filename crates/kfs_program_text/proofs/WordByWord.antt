-- Words are read one by one.
use Rattle.std.proofs.Common.{◌≡◌, ℕ, nat_lt, Bool, true, false, ◌&&◌, List, [], ◌∷◌, length, Option, Some, None, option_map, refl, sym, ap, if◌then◌else◌}
use Rattle.kfs_model.specs.Steps.{◌>>=◌}
use Rattle.kfs_program_text.specs.Decimals.{decimals32}
use Rattle.kfs_program_text.specs.Reading.{are_words, checked, ended, first_by}
use Rattle.kfs_program_text.proofs.NumbersRead.{empty_numbers}

module _ {T : Type 0} where
  pub if_none : (b : Bool) (o : Option T) → o ≡ None → (if b then o else None) ≡ None
  if_none true o is = is
  if_none false o is = refl

module _ {X T : Type 0} where
  pub bind_all : (o : Option X) (f g : X → Option T) → ((x : X) → f x ≡ g x) → (o >>= f) ≡ (o >>= g)
  bind_all None f g same = refl
  bind_all (Some x) f g same = same x

  pub bind_none : (o : Option X) (f : X → Option T) → ((x : X) → f x ≡ None) → None ≡ (o >>= f)
  bind_none None f none = refl
  bind_none (Some x) f none = sym (none x)

  -- a reading of the first word, and then of the others
  unfoldable pub word_then : (List ℕ → Option X) → (X → List (List ℕ) → Option T) → List (List ℕ) → Option T
  word_then read next [] = None
  word_then read next (word ∷ words) = read word >>= λ x. next x words

  checked_bind : (some : Bool) (words : List (List ℕ)) (o : Option X) (next : X → List (List ℕ) → Option T)
      → (if some && are_words words then (o >>= λ x. next x words) else None) ≡ ((if some then option_map {U = X × List (List ℕ)} (λ x. (x, words)) o else None) >>= λ x. checked (next x.0) x.1)
  unfolding checked
  checked_bind false words o next = refl
  checked_bind true words None next = if_none (are_words words) None refl
  checked_bind true words (Some x) next = refl

  pub checked_then : (read : List ℕ → Option X) (next : X → List (List ℕ) → Option T) (words : List (List ℕ)) → checked (word_then read next) words ≡ (first_by read words >>= λ x. checked (next x.0) x.1)
  unfolding checked first_by word_then
  checked_then read next [] = refl
  checked_then read next (word ∷ words) = checked_bind (nat_lt 0 (length word)) words (read word) next

  pub map_bind : {U : Type 0} (o : Option X) (f : X → Option T) (g : T → U) → option_map g (o >>= f) ≡ (o >>= λ x. option_map g (f x))
  map_bind None f g = refl
  map_bind (Some x) f g = refl

  pub bind_bind : {U : Type 0} (o : Option X) (f : X → Option T) (g : T → Option U) → ((o >>= f) >>= g) ≡ (o >>= λ x. f x >>= g)
  bind_bind None f g = refl
  bind_bind (Some x) f g = refl

module _ {T : Type 0} where
  -- nothing more is read
  unfoldable pub nothing_then : Option T → List (List ℕ) → Option T
  nothing_then o words = ended words >>= λ done. o

  pub checked_nothing : (o : Option T) (words : List (List ℕ)) → checked (nothing_then o) words ≡ (ended words >>= λ done. o)
  unfolding checked ended nothing_then
  checked_nothing o [] = refl
  checked_nothing o (word ∷ words) = if_none (are_words (word ∷ words)) None refl

  pub checked_same : (f g : List (List ℕ) → Option T) → ((words : List (List ℕ)) → f words ≡ g words) → (words : List (List ℕ)) → checked f words ≡ checked g words
  unfolding checked
  checked_same f g same words = ap (λ o. if are_words words then o else None) (same words)

module _ {T : Type 0} where
  decimals_if : (are : Bool) (o : Option (List ℕ)) → (are ≡ false → o ≡ None) → (made : List ℕ → T) → (if are then (o >>= λ ns. Some (made ns)) else None) ≡ (o >>= λ ns. Some (made ns))
  decimals_if true o unless made = refl
  decimals_if false o unless made = sym (ap (λ read. read >>= (λ ns. Some (made ns))) (unless refl))

  -- all words that are left as numbers
  unfoldable pub decimals_then : (List ℕ → T) → List (List ℕ) → Option T
  decimals_then made words = decimals32 words >>= λ ns. Some (made ns)

  pub checked_decimals : (made : List ℕ → T) (words : List (List ℕ)) → checked (decimals_then made) words ≡ (decimals32 words >>= λ ns. Some (made ns))
  unfolding checked decimals_then
  checked_decimals made words = decimals_if (are_words words) (decimals32 words) (empty_numbers words) made

-- ---- the first word itself

pub first_if : (some : Bool) (name word : List ℕ) (words left : List (List ℕ)) → (if some then option_map {U = List ℕ × List (List ℕ)} (λ x. (x, words)) (Some name) else None) ≡ Some (word, left) → (some ≡ true) × (name ≡ word) × (words ≡ left)
first_if false name word words left is = cc
first_if true name word words left is =
    let same : ◌≡◌ {A = List ℕ × List (List ℕ)} (name, words) (word, left) = cc in
    (refl, ap (λ x. x.0) same, ap (λ x. x.1) same)

pub nothing_if : {T : Type 0} (some are : Bool) (word : List ℕ) (words : List (List ℕ)) (o : Option T) → (if some then option_map {U = List ℕ × List (List ℕ)} (λ x. (x, words)) (Some word) else None) ≡ None → (if some && are then o else None) ≡ None
nothing_if false are word words o is = refl
nothing_if true are word words o is = cc
