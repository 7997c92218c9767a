-- The sizes of an image and the row of a client, by the numbers that are read for them.
use Rattle.std.proofs.Common.{◌≡◌, ℕ, ◌<◌, ◌≤◌, nat_lt, nat_le, suc, zero, Bool, true, false, ◌&&◌, List, [], ◌∷◌, length, take, Option, Some, None, Result, Ok, Err, option_map, refl, sym, ap, ◌∙◌, arith, if◌then◌else◌}
use Rattle.std.specs.Prelude.{◌↔◌, IfOk, IfSome, IsFalse, IsSome}
use Rattle.kfs_model.specs.Placement.{TierSizes}
use Rattle.std.specs.List.{list_all}
use Rattle.std.specs.Str.Parse.{digits_value}
use Rattle.std.proofs.lemmas.List.{length-take}
use Rattle.std.proofs.lemmas.Bool.Decides.{nat_tests}
use Rattle.kfs_model.specs.Access.{Client, is_grant}
use Rattle.kfs_mode.specs.declared.client.ClientFault.{ClientFault}
use Rattle.kfs_mode.specs.declared.client.ClientFault.TheVariants.{TooManyGroups, BadGrant}
use Rattle.kfs_model.specs.Steps.{◌>>=◌}
use Rattle.kfs_program_text.specs.Command.{Command, Setup, New, Row, client_row, new_of}
use Rattle.kfs_program_text.specs.Decimals.{decimal32, decimal_within, is_digit}

-- ---- the sizes of an image

abbrev within : ℕ → Bool
within n = nat_le n 65536

abbrev pub sizes_by : ℕ → ℕ → ℕ → Option Command
sizes_by a b c = if within a && (within b && within c) then Some (Setup (New (record { first = a; second = b; third = c }))) else None

-- the number where it is small enough
abbrev kept : ℕ → Option ℕ
kept n = if within n then Some n else None

none_kept : (small : Bool) (v : ℕ) → (small ≡ true → false ≡ true) → (if small then Some v else None) ≡ None
none_kept true v larger = cc (larger refl)
none_kept false v larger = refl

kept_of : (v : ℕ) (fits : Bool) → (within v ≡ true → fits ≡ true) → kept v ≡ ((if fits then Some v else None) >>= kept)
kept_of v true larger = refl
kept_of v false larger = none_kept (within v) v larger

kept_if : (some are fits : Bool) (v : ℕ) → (within v ≡ true → fits ≡ true) → (if some && (are && within v) then Some v else None) ≡ ((if some && (are && fits) then Some v else None) >>= kept)
kept_if false are fits v larger = refl
kept_if true false fits v larger = refl
kept_if true true fits v larger = kept_of v fits larger

fits_32 : (v : ℕ) → within v ≡ true → nat_le v 4294967295 ≡ true
fits_32 v small = grind (arith, nat_tests)

narrowed : (word : List ℕ) → decimal_within 65536 word ≡ (decimal32 word >>= kept)
narrowed word = kept_if (nat_lt 0 (length word)) (list_all is_digit word) (nat_le (digits_value 10 word) 4294967295) (digits_value 10 word) (fits_32 (digits_value 10 word))

abbrev nothing : Option Command
nothing = None

three_within : (p q r : Bool) (a b c : ℕ) (f : ℕ → ℕ → ℕ → Command)
    → ((if p then Some a else None) >>= λ x. (if q then Some b else None) >>= λ y. (if r then Some c else None) >>= λ z. Some (f x y z)) ≡ (if p && (q && r) then Some (f a b c) else None)
three_within false q r a b c f = refl
three_within true false r a b c f = refl
three_within true true false a b c f = refl
three_within true true true a b c f = refl

two_within : (p q : Bool) (a b : ℕ) → ((if p then Some a else None) >>= λ x. (if q then Some b else None) >>= λ y. nothing) ≡ None
two_within false q a b = refl
two_within true false a b = refl
two_within true true a b = refl

one_within : (p : Bool) (a : ℕ) → ((if p then Some a else None) >>= λ x. nothing) ≡ None
one_within false a = refl
one_within true a = refl

three_kept : (x y z : Option ℕ) (f : ℕ → ℕ → ℕ → Command)
    → ((x >>= kept) >>= λ a. (y >>= kept) >>= λ b. (z >>= kept) >>= λ c. Some (f a b c)) ≡ (x >>= λ a. y >>= λ b. z >>= λ c. if within a && (within b && within c) then Some (f a b c) else None)
three_kept None y z f = refl
three_kept (Some a) None z f = one_within (within a) a
three_kept (Some a) (Some b) None f = two_within (within a) (within b) a b
three_kept (Some a) (Some b) (Some c) f = three_within (within a) (within b) (within c) a b c f

pub new_by_sizes : (a b c : List ℕ) → new_of (a ∷ b ∷ c ∷ []) ≡ (decimal32 a >>= λ x. decimal32 b >>= λ y. decimal32 c >>= λ z. sizes_by x y z)
new_by_sizes a b c =
    ap (λ o. o >>= λ x. decimal_within 65536 b >>= λ y. decimal_within 65536 c >>= λ z. Some (Setup (New (record { first = x; second = y; third = z })))) (narrowed a)
    ∙ ap (λ o. (decimal32 a >>= kept) >>= λ x. o >>= λ y. decimal_within 65536 c >>= λ z. Some (Setup (New (record { first = x; second = y; third = z })))) (narrowed b)
    ∙ ap (λ o. (decimal32 a >>= kept) >>= λ x. (decimal32 b >>= kept) >>= λ y. o >>= λ z. Some (Setup (New (record { first = x; second = y; third = z })))) (narrowed c)
    ∙ three_kept (decimal32 a) (decimal32 b) (decimal32 c) (λ x y z. Setup (New (record { first = x; second = y; third = z })))

all_fit : (a b c : ℕ) → a ≤ 65536 → b ≤ 65536 → c ≤ 65536 → sizes_by a b c ≡ Some (Setup (New (record { first = a; second = b; third = c })))
all_fit a b c first second third = grind (arith, nat_tests)

not_all_fit : (a b c : ℕ) → (a ≤ 65536 → b ≤ 65536 → c ≤ 65536 → ⊥) → sizes_by a b c ≡ None
not_all_fit a b c never = grind (arith, nat_tests)

-- sizes are made exactly where each is small enough
pub sizes_are : (a b c : ℕ) (o : Option TierSizes) → (IsSome o ↔ (a ≤ 65536) × (b ≤ 65536) × (c ≤ 65536)) → IfSome o (λ sizes. sizes ≡ record { first = a; second = b; third = c })
    → sizes_by a b c ≡ option_map (λ sizes. Setup (New sizes)) o
sizes_are a b c None is value = not_all_fit a b c (λ first second third. let e : false ≡ true = is.1 (first, second, third) in cc)
sizes_are a b c (Some sizes) is value =
    let fits = is.0 refl in
    all_fit a b c fits.0 fits.1 fits.2 ∙ ap (λ sizes. Some (Setup (New sizes))) (sym value)

-- ---- the row of a client

take_all : (most : ℕ) (xs : List ℕ) → length xs ≤ most → take most xs ≡ xs
take_all zero [] fits = refl
take_all zero (x ∷ xs) fits = absurd (omega arith)
take_all (suc most) [] fits = refl
take_all (suc most) (x ∷ xs) fits = ap (λ rest. x ∷ rest) (take_all most xs (omega arith))

many_taken : (groups : List ℕ) → nat_lt 16 (length groups) ≡ true → nat_lt 16 (length (take 17 groups)) ≡ true
many_taken groups many = simp length-take (grind (arith, nat_tests))

few : (n : ℕ) → nat_lt 16 n ≡ false → n ≤ 17
few n is = grind (arith, nat_tests)

kept_by : (number uid gid : ℕ) (privileged : Bool) (first last : ℕ) (groups : List ℕ) (many : Bool) → nat_lt 16 (length groups) ≡ many → client_row number uid gid groups privileged first last ≡ client_row number uid gid (take 17 groups) privileged first last
kept_by number uid gid privileged first last groups true many = rw (many, many_taken groups many) refl
kept_by number uid gid privileged first last groups false is = ap (λ gs. client_row number uid gid gs privileged first last) (sym (take_all 17 groups (few (length groups) is)))

pub kept_row : (number uid gid : ℕ) (privileged : Bool) (first last : ℕ) (groups : List ℕ) → client_row number uid gid groups privileged first last ≡ client_row number uid gid (take 17 groups) privileged first last
kept_row number uid gid privileged first last groups = kept_by number uid gid privileged first last groups (nat_lt 16 (length groups)) refl

pub kept_groups : (number uid gid : ℕ) (privileged : Bool) (first last : ℕ) (o : Option (List ℕ))
    → (o >>= λ groups. Some (Setup (Row (client_row number uid gid groups privileged first last))))
    ≡ (option_map (λ ns. take 17 ns) o >>= λ groups. Some (Setup (Row (client_row number uid gid groups privileged first last))))
kept_groups number uid gid privileged first last None = refl
kept_groups number uid gid privileged first last (Some groups) = ap (λ row. Some (Setup (Row row))) (kept_row number uid gid privileged first last groups)

many_is : (n : ℕ) → 16 < n → nat_lt 16 n ≡ true
many_is n many = grind (arith, nat_tests)

few_is : (n : ℕ) → (16 < n → ⊥) → nat_lt 16 n ≡ false
few_is n few = grind (arith, nat_tests)

at_most : (n : ℕ) → (16 < n → ⊥) → n ≤ 16
at_most n few = omega arith

good_is : (grant : Bool) → (IsFalse grant → ⊥) → grant ≡ true
good_is true good = refl
good_is false good = absurd (good refl)

-- a client's row is this answer where its refusals come exactly where they are due
pub row_is : (number uid gid : ℕ) (groups : List ℕ) (privileged : Bool) (first last : ℕ) (r : Result Client ClientFault)
    → ((r ≡ Err TooManyGroups) → (16 < length groups)) → ((16 < length groups) → (r ≡ Err TooManyGroups))
    → ((r ≡ Err BadGrant) → (length groups ≤ 16) × IsFalse (is_grant first last)) → ((length groups ≤ 16) × IsFalse (is_grant first last) → (r ≡ Err BadGrant))
    → IfOk r (λ c. c ≡ record { number = number; uid = uid; gid = gid; groups = groups; privileged = privileged; first = first; last = last })
    → client_row number uid gid groups privileged first last ≡ r
row_is number uid gid groups privileged first last (Err TooManyGroups) many many_back bad bad_back ok = rw (many_is (length groups) (many refl)) refl
row_is number uid gid groups privileged first last (Err BadGrant) many many_back bad bad_back ok =
    let few : 16 < length groups → ⊥ = λ more. omega (arith, (bad refl).0) in
    let none : is_grant first last ≡ false = (bad refl).1 in
    rw (few_is (length groups) few, none) refl
row_is number uid gid groups privileged first last (Ok client) many many_back bad bad_back ok =
    let few : 16 < length groups → ⊥ = λ more. let e : Ok client ≡ Err TooManyGroups = many_back more in cc in
    let good : IsFalse (is_grant first last) → ⊥ = λ wrong. let e : Ok client ≡ Err BadGrant = bad_back (at_most (length groups) few, wrong) in cc in
    rw (few_is (length groups) few, good_is (is_grant first last) good) (ap (λ c. Ok c) (sym ok))
