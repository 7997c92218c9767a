-- The parts of a path, and the test of its names.
use Rattle.std.proofs.Common.{◌≡◌, ℕ, suc, ◌+◌, ◌-◌, ◌<◌, ◌≤◌, Bool, true, false, cond, not, ◌==◌, List, [], ◌∷◌, length, take, drop, take_all, length-drop, Some, None, refl, sym, ap, subst, ◌∙◌, arith}
use Rattle.std.specs.Prelude.{nat_lt, if◌then◌else◌, IsTrue, ◌↔◌}
use Rattle.std.specs.List.{position, position_or_len}
use Rattle.std.specs.Cmp.{both_ways}
use Rattle.std.proofs.lemmas.Bool.{ltb-true, ltb-false}
use Rattle.kfs_model.specs.Lease.{parts_of, prepended}
use Rattle.kfs_model.specs.Spelling.{IsName, is_name, slash}
use Rattle.kfs_model.proofs.NameTest.{is_name_sound, is_name_true}

-- what answers whether bytes are a name answers as their test does
pub same_test : (answer : Bool) (bytes : List ℕ) → (IsTrue answer ↔ IsName bytes) → answer ≡ is_name bytes
same_test answer bytes valid = both_ways answer (is_name bytes) (λ holds. is_name_true bytes (valid.0 holds)) (λ passes. valid.1 (is_name_sound bytes passes))

abbrev is_slash : ℕ → Bool
is_slash byte = byte == slash

abbrev before_slash : List ℕ → ℕ
before_slash bytes = position_or_len is_slash bytes

-- at a slash the first part ends, and the others follow
at_slash : (bytes : List ℕ) → before_slash bytes < length bytes → parts_of bytes ≡ take (before_slash bytes) bytes ∷ parts_of (drop (before_slash bytes + 1) bytes)
at_slash [] inside = absurd (omega arith)
at_slash (b ∷ bytes) inside = at (b == slash) refl (at_slash bytes)
  where
    place : Bool → ℕ
    place is = cond (not is) (1 + before_slash bytes) 0

    at : (is : Bool) → (b == slash) ≡ is → (before_slash bytes < length bytes → parts_of bytes ≡ take (before_slash bytes) bytes ∷ parts_of (drop (before_slash bytes + 1) bytes))
        → parts_of (b ∷ bytes) ≡ take (before_slash (b ∷ bytes)) (b ∷ bytes) ∷ parts_of (drop (before_slash (b ∷ bytes) + 1) (b ∷ bytes))
    at true is later =
        ap (λ t. if t then [] ∷ parts_of bytes else prepended b (parts_of bytes)) is
        ∙ sym (ap (λ t. take (cond (not t) (1 + before_slash bytes) 0) (b ∷ bytes) ∷ parts_of (drop (cond (not t) (1 + before_slash bytes) 0 + 1) (b ∷ bytes))) is)
    at false is later =
        let within : 1 + before_slash bytes < length (b ∷ bytes) = subst (λ t. cond (not t) (1 + before_slash bytes) 0 < length (b ∷ bytes)) is inside in
        let rest = later (omega arith) in
        let next : 1 + before_slash bytes ≡ suc (before_slash bytes) = omega arith in
        let after : suc (before_slash bytes) + 1 ≡ suc (before_slash bytes + 1) = omega arith in
        ap (λ t. if t then [] ∷ parts_of bytes else prepended b (parts_of bytes)) is
        ∙ ap (prepended b) rest
        ∙ ap (λ n. (b ∷ take (before_slash bytes) bytes) ∷ parts_of (drop n (b ∷ bytes))) (sym after)
        ∙ ap (λ n. take n (b ∷ bytes) ∷ parts_of (drop (n + 1) (b ∷ bytes))) (sym next)
        ∙ sym (ap (λ t. take (cond (not t) (1 + before_slash bytes) 0) (b ∷ bytes) ∷ parts_of (drop (cond (not t) (1 + before_slash bytes) 0 + 1) (b ∷ bytes))) is)

-- without a slash there is one part
no_slash : (bytes : List ℕ) → length bytes ≤ before_slash bytes → parts_of bytes ≡ bytes ∷ []
no_slash [] none = refl
no_slash (b ∷ bytes) none = at (b == slash) refl (no_slash bytes)
  where
    at : (is : Bool) → (b == slash) ≡ is → (length bytes ≤ before_slash bytes → parts_of bytes ≡ bytes ∷ []) → parts_of (b ∷ bytes) ≡ (b ∷ bytes) ∷ []
    at true is later = let never : length (b ∷ bytes) ≤ 0 = subst (λ t. length (b ∷ bytes) ≤ cond (not t) (1 + before_slash bytes) 0) is none in absurd (omega arith)
    at false is later =
        let beyond : length (b ∷ bytes) ≤ 1 + before_slash bytes = subst (λ t. length (b ∷ bytes) ≤ cond (not t) (1 + before_slash bytes) 0) is none in
        ap (λ t. if t then [] ∷ parts_of bytes else prepended b (parts_of bytes)) is ∙ ap (prepended b) (later (omega arith))

all_left : (bytes : List ℕ) (n : ℕ) → take (length bytes - n) (drop n bytes) ≡ drop n bytes
all_left bytes n = take_all _ _ (omega (arith, length-drop n bytes))

pub parts_at : (bytes : List ℕ) (place : ℕ) → Some place ≡ position is_slash bytes
    → parts_of bytes ≡ take place bytes ∷ parts_of (take (length bytes - (place + 1)) (drop (place + 1) bytes))
parts_at bytes place found = at (nat_lt (before_slash bytes) (length bytes)) refl
  where
    at : (inside : Bool) → nat_lt (before_slash bytes) (length bytes) ≡ inside → parts_of bytes ≡ take place bytes ∷ parts_of (take (length bytes - (place + 1)) (drop (place + 1) bytes))
    at true inside =
        let same : Some place ≡ Some (before_slash bytes) = found ∙ ap (λ b. cond b (Some (before_slash bytes)) None) inside in
        let place_is : place ≡ before_slash bytes = cc in
        at_slash bytes (ltb-true _ _ inside) ∙ ap (λ n. take n bytes ∷ parts_of (drop (n + 1) bytes)) (sym place_is)
        ∙ ap (λ bs. take place bytes ∷ parts_of bs) (sym (all_left bytes (place + 1)))
    at false outside = let never : Some place ≡ None = found ∙ ap (λ b. cond b (Some (before_slash bytes)) None) outside in cc

pub one_part : (bytes : List ℕ) → None ≡ position is_slash bytes → parts_of bytes ≡ bytes ∷ []
one_part bytes none = at (nat_lt (before_slash bytes) (length bytes)) refl
  where
    at : (inside : Bool) → nat_lt (before_slash bytes) (length bytes) ≡ inside → parts_of bytes ≡ bytes ∷ []
    at true inside = let never : None ≡ Some (before_slash bytes) = none ∙ ap (λ b. cond b (Some (before_slash bytes)) None) inside in cc
    at false outside = no_slash bytes (ltb-false _ _ outside)
