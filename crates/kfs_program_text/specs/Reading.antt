-- Reading words one after another.
use Rattle.std.specs.Prelude.{◌≡◌, ℕ, nat_lt, Bool, List, [], ◌∷◌, length, Option, Some, None, option_map, Result, MatchResult, if◌then◌else◌}
use Rattle.std.specs.List.{list_all}
use Rattle.kfs_model.specs.Steps.{◌>>=◌}
use Rattle.kfs_program_text.specs.Cut.{cut, space}
use Rattle.kfs_program_text.specs.Decimals.{hexadecimal}
use Rattle.kfs_program_text.specs.declared.words.Refusal.{Refusal}
use Rattle.kfs_program_text.specs.declared.words.Refusal.TheVariants.{BadLine}
use Rattle.kfs_program_text.specs.declared.words.Words.{Words}

-- the words that aren't read yet
abbrev pub words_left : Words → List (List ℕ)
words_left words = elim words.rest [ None ↦ [] | Some rest ↦ cut space rest.now ]

-- each word has at least one byte
abbrev pub are_words : List (List ℕ) → Bool
are_words parts = list_all (λ word. nat_lt 0 (length word)) parts

-- what the reading makes of the first word, and the words after it; none where there is no word, or it
-- is empty or can't be read so
unfoldable pub first_by : {T : Type 0} → (List ℕ → Option T) → List (List ℕ) → Option (T × List (List ℕ))
first_by read [] = None
first_by read (word ∷ words) = if nat_lt 0 (length word) then option_map (λ x. (x, words)) (read word) else None

-- there is no word left
unfoldable pub ended : List (List ℕ) → Option (Unit {0})
ended [] = Some tt
ended (word ∷ words) = None

-- what the reading makes of the only word
abbrev pub only : {T : Type 0} → (List ℕ → Option T) → List (List ℕ) → Option T
only read words = first_by read words >>= λ x. ended x.1 >>= λ done. Some x.0

-- the bytes that the only two words encode
abbrev pub both_hexadecimal : List (List ℕ) → Option (List ℕ × List ℕ)
both_hexadecimal words = first_by hexadecimal words >>= λ front. first_by hexadecimal front.1 >>= λ back. ended back.1 >>= λ done. Some (front.0, back.0)

-- what the reading makes of the words; none where one of them is empty
unfoldable pub checked : {T : Type 0} → (List (List ℕ) → Option T) → List (List ℕ) → Option T
checked read words = if are_words words then read words else None

-- the result is what the words say, and the line is bad exactly where they say nothing; memory isn't
-- wanted
abbrev pub ReadsExactly : {T V : Type 0} → (T → V) → Option V → Result T Refusal → Type 0
ReadsExactly view expected result = MatchResult result (λ x. expected ≡ Some (view x)) (λ refusal. (refusal ≡ BadLine) × (expected ≡ None))

-- the result is what the words say, and the line is bad only where they say nothing
abbrev pub ReadsAs : {T V : Type 0} → (T → V) → Option V → Result T Refusal → Type 0
ReadsAs view expected result = MatchResult result (λ x. expected ≡ Some (view x)) (λ refusal. refusal ≡ BadLine → expected ≡ None)
