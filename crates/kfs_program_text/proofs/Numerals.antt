-- Words of digits as numbers.
use Rattle.std.proofs.Common.{◌≡◌, ℕ, ◌+◌, ◌-◌, ◌*◌, ◌^◌, ◌<◌, ◌≤◌, Bool, true, List, [], ◌∷◌, ◌++◌, length, take, drop, get_or, Some, None, refl, sym, ap, ◌∙◌, arith, nat_lt, nat_le, ◌&&◌, if◌then◌else◌, take-append-drop}
use Rattle.std.specs.Char.{digit_value}
use Rattle.std.specs.List.{list_all}
use Rattle.std.specs.Str.Parse.{digits_value, digits_value_after}
use Rattle.std.proofs.lemmas.Bool.Decides.{nat_tests}
use Rattle.std.proofs.lemmas.Int.Digits.{digits_value_more}
use Rattle.kfs_program_text.specs.Decimals.{is_digit, decimal_within}

-- ---- digits at the front

grows : (n : ℕ) (digits : List ℕ) → n ≤ digits_value_after 10 n digits
grows n [] = omega arith
grows n (digit ∷ digits) = omega (arith, grows (n * 10 + digit_value digit) digits)

joined : (n : ℕ) (front back : List ℕ) → digits_value_after 10 n (front ++ back) ≡ digits_value_after 10 (digits_value_after 10 n front) back
joined n [] back = refl
joined n (digit ∷ front) back = joined (n * 10 + digit_value digit) front back

-- they are worth no more than all of them
front_least : (place : ℕ) (digits : List ℕ) → digits_value 10 (take place digits) ≤ digits_value 10 digits
front_least place digits =
    let whole = ap (digits_value 10) (sym (take-append-drop place digits)) ∙ joined 0 (take place digits) (drop place digits) in
    rw whole (grows (digits_value 10 (take place digits)) (drop place digits))

pub one_more : (word : List ℕ) (place number : ℕ) → place < length word → is_digit (get_or word place 0) ≡ true → number ≡ digits_value 10 (take place word)
    → digits_value 10 (take (place + 1) word) ≡ number * 10 + (get_or word place 0 - 48)
one_more word place number inside digit is =
    let worth : digit_value (get_or word place 0) ≡ get_or word place 0 - 48 = grind (arith, nat_tests) in
    rw (digits_value_more 10 word place inside, worth, is)

-- ---- what a word stands for

stands_for : (len n most : ℕ) (are : Bool) → 0 < len → are ≡ true → n ≤ most → (if nat_lt 0 len && (are && nat_le n most) then Some n else None) ≡ Some n
stands_for len n most are some all within = grind (arith, nat_tests)

stands_for_none : (len n most : ℕ) (are : Bool) → most < n → (if nat_lt 0 len && (are && nat_le n most) then Some n else None) ≡ None
stands_for_none len n most are over = grind (arith, nat_tests)

pub within : (most number : ℕ) (word : List ℕ) → 0 < length word → list_all is_digit word ≡ true → number ≡ digits_value 10 word → number ≤ most → Some number ≡ decimal_within most word
within most number word some all is small =
    ap Some is ∙ sym (stands_for (length word) (digits_value 10 word) most (list_all is_digit word) some all (omega (arith, is, small)))

pub over : (most : ℕ) (word : List ℕ) → most < digits_value 10 word → None ≡ decimal_within most word
over most word large = sym (stands_for_none (length word) (digits_value 10 word) most (list_all is_digit word) large)

-- the number doesn't fit into 64 bits with its next digit
pub unfit : (most : ℕ) (word : List ℕ) (place number : ℕ) → most < 2 ^ 64 → place < length word → is_digit (get_or word place 0) ≡ true → number ≡ digits_value 10 (take place word)
    → (number * 10 + (get_or word place 0 - 48) < 2 ^ 64 → ⊥) → None ≡ decimal_within most word
unfit most word place number fits inside digit is never =
    let next = one_more word place number inside digit is in
    let least = front_least (place + 1) word in
    let large : 2 ^ 64 ≤ number * 10 + (get_or word place 0 - 48) = grind (arith, never) in
    over most word (omega (arith, fits, next, least, large))
