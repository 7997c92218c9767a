-- Words that are left are read as numbers one by one.
use Rattle.std.proofs.Common.{◌≡◌, ℕ, ◌<◌, nat_lt, suc, zero, Bool, true, false, ◌&&◌, List, [], ◌∷◌, ◌++◌, length, take, Option, Some, None, is_some, option_map, refl, sym, ap, ◌∙◌, append_assoc, arith, if◌then◌else◌}
use Rattle.std.proofs.lemmas.List.{append-nil}
use Rattle.kfs_program_text.specs.Decimals.{decimal32, decimals32}
use Rattle.kfs_program_text.specs.Cut.{space}
use Rattle.kfs_program_text.specs.Reading.{are_words, ended, first_by, words_left}
use Rattle.kfs_program_text.specs.declared.words.Words.{Words}
use Rattle.kfs_program_text.proofs.WordsCut.{cut_not_ended}

-- these words came to numbers of which the first so many are kept, and the others are left
pub record AreRead (most : ℕ) (words left : List (List ℕ)) (kept : List ℕ) : Type 0 where
  pub before : List ℕ
  pub kept_are : kept ≡ take most before
  pub words_are : decimals32 words ≡ option_map (λ ns. before ++ ns) (decimals32 left)

map_nothing : (o : Option (List ℕ)) → o ≡ option_map (λ ns. [] ++ ns) o
map_nothing None = refl
map_nothing (Some ns) = refl

take_none : (most : ℕ) → [] ≡ take {A = ℕ} most []
take_none zero = refl
take_none (suc most) = refl

pub none_read : (most : ℕ) (words : List (List ℕ)) → AreRead most words words []
none_read most words = record { before = []; kept_are = take_none most; words_are = map_nothing (decimals32 words) }

take_again : (most : ℕ) (xs ys : List ℕ) → take most (take most xs ++ ys) ≡ take most (xs ++ ys)
take_again zero xs ys = refl
take_again (suc most) [] ys = refl
take_again (suc most) (x ∷ xs) ys = ap (λ ns. x ∷ ns) (take_again most xs ys)

map_twice : (before : List ℕ) (n : ℕ) (o : Option (List ℕ)) → option_map (λ ns. before ++ ns) (option_map (λ ns. n ∷ ns) o) ≡ option_map (λ ns. (before ++ n ∷ []) ++ ns) o
map_twice before n None = refl
map_twice before n (Some ns) = ap (λ all. Some all) (sym (append_assoc before (n ∷ []) ns))

-- the numbers of the first word as it is read, and of the others
abbrev both : Option ℕ → Option (List ℕ) → Option (List ℕ)
both None rest = None
both (Some n) rest = option_map (λ ns. n ∷ ns) rest

both_is : (o : Option ℕ) (rest : Option (List ℕ)) → both o rest ≡ (elim o [ None ↦ None | Some n ↦ option_map (λ ns. n ∷ ns) rest ])
both_is None rest = refl
both_is (Some n) rest = refl

numbers_with : (word : List ℕ) (words : List (List ℕ)) (o : Option ℕ) → decimal32 word ≡ o → decimals32 (word ∷ words) ≡ both o (decimals32 words)
unfolding decimals32
numbers_with word words o is = sym (both_is (decimal32 word) (decimals32 words)) ∙ ap (λ read. both read (decimals32 words)) is

next_of : (word : List ℕ) (words rest : List (List ℕ)) (n : ℕ) (some : Bool) (o : Option ℕ) → (if some then option_map {U = ℕ × List (List ℕ)} (λ x. (x, words)) o else None) ≡ Some (n, rest) → (o ≡ Some n) × (words ≡ rest)
next_of word words rest n false o is = cc
next_of word words rest n true None is = cc
next_of word words rest n true (Some m) is =
    let same : ◌≡◌ {A = ℕ × List (List ℕ)} (m, words) (n, rest) = cc in
    (ap (λ x. Some x.0) same, ap (λ x. x.1) same)

pub next_number : (left rest : List (List ℕ)) (n : ℕ) → first_by decimal32 left ≡ Some (n, rest) → (decimals32 left ≡ option_map (λ ns. n ∷ ns) (decimals32 rest)) × (length rest < length left)
unfolding first_by
next_number [] rest n is = cc
next_number (word ∷ words) rest n is =
    let parts = next_of word words rest n (nat_lt 0 (length word)) (decimal32 word) is in
    (numbers_with word words (Some n) parts.0 ∙ ap (λ ws. option_map (λ ns. n ∷ ns) (decimals32 ws)) parts.1, rw (← parts.1) (omega arith))

pub one_read : (most : ℕ) (words left rest : List (List ℕ)) (kept : List ℕ) (n : ℕ) → AreRead most words left kept → first_by decimal32 left ≡ Some (n, rest) → AreRead most words rest (take most (kept ++ n ∷ []))
one_read most words left rest kept n are is = record {
  before = are.before ++ n ∷ [];
  kept_are = ap (λ ks. take most (ks ++ n ∷ [])) are.kept_are ∙ take_again most are.before (n ∷ []);
  words_are = are.words_are ∙ ap (λ o. option_map (λ ns. are.before ++ ns) o) (next_number left rest n is).0 ∙ map_twice are.before n (decimals32 rest);
}

pub all_read : (most : ℕ) (words : List (List ℕ)) (kept : List ℕ) → AreRead most words [] kept → option_map (λ ns. take most ns) (decimals32 words) ≡ Some kept
unfolding decimals32
all_read most words kept are =
    ap (λ o. option_map (λ ns. take most ns) o) are.words_are ∙ ap (λ ns. Some (take most ns)) (append-nil are.before) ∙ ap (λ ns. Some ns) (sym are.kept_are)

no_next : (words : List (List ℕ)) (some : Bool) (o : Option ℕ) → (some ≡ false → o ≡ None) → (if some then option_map {U = ℕ × List (List ℕ)} (λ x. (x, words)) o else None) ≡ None → o ≡ None
no_next words false o unless is = unless refl
no_next words true None unless is = refl
no_next words true (Some n) unless is = cc

empty_is_none : (word : List ℕ) → nat_lt 0 (length word) ≡ false → decimal32 word ≡ None
empty_is_none word is = rw is refl

-- where a text is left, so is a word
pub some_left : (words : Words) → is_some words.rest ≡ true → ended (words_left words) ≡ None
some_left words = elim words.rest as (λ o. is_some o ≡ true → ended (words_left (record { rest = o })) ≡ None) [
  | None ↦ λ is. cc
  | Some rest ↦ λ is. cut_not_ended space rest.now
]

pub none_left : (words : Words) → is_some words.rest ≡ false → words_left words ≡ []
none_left words = elim words.rest as (λ o. is_some o ≡ false → words_left (record { rest = o }) ≡ []) [
  | None ↦ λ is. refl
  | Some rest ↦ λ is. cc
]

pub no_number : (words left : List (List ℕ)) (most : ℕ) (kept : List ℕ) → AreRead most words left kept → ended left ≡ None → first_by decimal32 left ≡ None → option_map (λ ns. take most ns) (decimals32 words) ≡ None
unfolding ended first_by
no_number words [] most kept are some is = cc
no_number words (word ∷ left) most kept are some is =
    let none = no_next left (nat_lt 0 (length word)) (decimal32 word) (empty_is_none word) is in
    rw (are.words_are, numbers_with word left None none) refl

empty_first : (some others : Bool) (o : Option ℕ) (rest : Option (List ℕ)) → (some ≡ false → o ≡ None) → (others ≡ false → rest ≡ None) → (some && others) ≡ false → both o rest ≡ None
empty_first false others o rest first later is = ap (λ read. both read rest) (first refl)
empty_first true false None rest first later is = refl
empty_first true false (Some n) rest first later is = ap (λ read. both (Some n) read) (later refl)
empty_first true true o rest first later is = cc

-- an empty word is no number
pub empty_numbers : (words : List (List ℕ)) → are_words words ≡ false → decimals32 words ≡ None
unfolding decimals32
empty_numbers [] is = cc
empty_numbers (word ∷ words) is = sym (both_is (decimal32 word) (decimals32 words)) ∙ empty_first (nat_lt 0 (length word)) (are_words words) (decimal32 word) (decimals32 words) (empty_is_none word) (empty_numbers words) is
