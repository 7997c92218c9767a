-- The first word of a text stands before its first space.
use Rattle.std.proofs.Common.{◌≡◌, ℕ, ◌+◌, ◌<◌, ◌≤◌, ◌==◌, nat_lt, Bool, true, false, not, cond, List, [], ◌∷◌, length, take, drop, Some, None, refl, ap, subst, arith, position}
use Rattle.std.specs.List.{onto_first, position_or_len}
use Rattle.std.proofs.lemmas.List.Splits.{slice_split_first}
use Rattle.std.proofs.lemmas.Bool.Decides.{nat_tests}
use Rattle.kfs_program_text.specs.Cut.{cut}
use Rattle.kfs_program_text.specs.Reading.{ended}

-- the parts with one more byte before them, which may be a mark
abbrev pub with_byte : (is_mark : Bool) → ℕ → List (List ℕ) → List (List ℕ)
with_byte is_mark byte parts = cond is_mark ([] ∷ parts) (onto_first byte parts)

first_place : (n len place : ℕ) → cond (nat_lt n len) (Some n) None ≡ Some place → (n < len) × (n ≡ place)
first_place n len place is = grind (arith, nat_tests)

no_place : (n len : ℕ) → cond (nat_lt n len) (Some n) None ≡ None → len ≤ n
no_place n len is = grind (arith, nat_tests)

-- the part before the first mark, and the parts behind it
pub cut_at : (mark : ℕ) (bytes : List ℕ) (place : ℕ) → position (λ b. b == mark) bytes ≡ Some place → cut mark bytes ≡ take place bytes ∷ cut mark (drop (place + 1) bytes)
unfolding cut
cut_at mark bytes place is =
    let n = position_or_len (λ b. b == mark) bytes in
    let at : (n < length bytes) × (n ≡ place) = first_place n (length bytes) place is in
    let first : cut mark bytes ≡ take n bytes ∷ cut mark (drop (n + 1) bytes) = slice_split_first (λ b. b == mark) bytes 0 at.0 in
    subst (λ m. cut mark bytes ≡ take m bytes ∷ cut mark (drop (m + 1) bytes)) at.1 first

whole_more : (is : Bool) (b : ℕ) (bytes : List ℕ) (n : ℕ) (parts : List (List ℕ)) → (length bytes ≤ n → parts ≡ bytes ∷ []) → length (b ∷ bytes) ≤ cond (not is) (1 + n) 0 → with_byte is b parts ≡ (b ∷ bytes) ∷ []
whole_more true b bytes n parts rest past = absurd (omega arith)
whole_more false b bytes n parts rest past = ap (onto_first b) (rest (omega arith))

whole : (mark : ℕ) (bytes : List ℕ) → length bytes ≤ position_or_len (λ b. b == mark) bytes → cut mark bytes ≡ bytes ∷ []
unfolding cut
whole mark [] past = refl
whole mark (b ∷ bytes) past = whole_more (b == mark) b bytes (position_or_len (λ x. x == mark) bytes) (cut mark bytes) (whole mark bytes) past

-- without a mark, the bytes are one part
pub uncut : (mark : ℕ) (bytes : List ℕ) → position (λ b. b == mark) bytes ≡ None → cut mark bytes ≡ bytes ∷ []
uncut mark bytes is = whole mark bytes (no_place (position_or_len (λ b. b == mark) bytes) (length bytes) is)

with_byte_not_ended : (is : Bool) (b : ℕ) (parts : List (List ℕ)) → ended (with_byte is b parts) ≡ None
unfolding ended
with_byte_not_ended true b parts = refl
with_byte_not_ended false b [] = refl
with_byte_not_ended false b (part ∷ parts) = refl

-- a text has a part, be it an empty one
pub cut_not_ended : (mark : ℕ) (bytes : List ℕ) → ended (cut mark bytes) ≡ None
unfolding cut ended
cut_not_ended mark [] = refl
cut_not_ended mark (b ∷ bytes) = with_byte_not_ended (b == mark) b (cut mark bytes)
