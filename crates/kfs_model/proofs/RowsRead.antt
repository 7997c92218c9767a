-- What is read where rows stand, and where they stop.
use Rattle.std.proofs.Common.{◌≡◌, ℕ, zero, suc, ◌+◌, ◌-◌, ◌<◌, List, [], ◌∷◌, ◌++◌, length, Option, Some, None, Result, Ok, Err, refl, ap, subst, ◌∙◌, append_assoc, arith}
use Rattle.std.specs.List.{flat_map, AllByRecursion}
use Rattle.std.proofs.lemmas.List.{get_or-append-add}
use Rattle.kfs_model.specs.Spelling.{IsBytes, BeginsWithNo, BeginsWithRows, LacksRow}
use Rattle.kfs_model.proofs.Fields.{IsField}

pub IsBytes-behind : (front rest : List ℕ) → IsBytes (front ++ rest) → IsBytes rest
IsBytes-behind front rest fits i = rw (← get_or-append-add front rest i 0) (fits (length front + i))

-- ---- rows

-- one row before those that were read, or one row more before the one that is missing
abbrev pub row_before : {V : Type 0} → V → Result (List V × List ℕ) ℕ → Result (List V × List ℕ) ℕ
row_before row (Ok x) = Ok (row ∷ x.0, x.1)
row_before row (Err k) = Err (suc k)

abbrev pub with_option : {V W : Type 0} → Option V → W → (V → W) → W
with_option None otherwise f = otherwise
with_option (Some x) otherwise f = f x

-- so many rows and the rest, or how many came before the one that is missing
unfoldable pub rows_read : {V : Type 0} → (List ℕ → Option (V × List ℕ)) → ℕ → List ℕ → Result (List V × List ℕ) ℕ
rows_read r zero bytes = Ok ([], bytes)
rows_read r (suc n) bytes = with_option (r bytes) (Err 0) (λ x. row_before x.0 (rows_read r n x.1))

-- where no value stands, none is read
pub none_read : {V : Type 0} (F : V → Type 0) (s : V → List ℕ) (r : List ℕ → Option (V × List ℕ)) → IsField F s r → (bytes : List ℕ) → IsBytes bytes → BeginsWithNo F s bytes → r bytes ≡ None
none_read {V} F s r field bytes fits never = go (r bytes) refl
  where
    go : (o : Option (V × List ℕ)) → r bytes ≡ o → o ≡ None
    go None is = refl
    go (Some x) is = let stands = field.takes bytes x fits is in absurd (never (x.0, x.1, stands.fits, stands.parts))

module _ {V : Type 0} (F : V → Type 0) (s : V → List ℕ) (r : List ℕ → Option (V × List ℕ)) (field : IsField F s r) where
  pub rows_stand : (rows : List V) (rest : List ℕ) → AllByRecursion F rows → rows_read r (length rows) (flat_map s rows ++ rest) ≡ Ok (rows, rest)
  unfolding rows_read
  rows_stand [] rest fits = refl
  rows_stand (row ∷ rows) rest fits =
      ap (λ (b : List ℕ). rows_read r (suc (length rows)) b) (append_assoc (s row) (flat_map s rows) rest)
      ∙ rw (field.again row (flat_map s rows ++ rest) fits.0) (rw (rows_stand rows rest fits.1) refl)

  rows_stop : (rows : List V) (more : ℕ) (rest : List ℕ) → AllByRecursion F rows → IsBytes rest → BeginsWithNo F s rest → rows_read r (length rows + suc more) (flat_map s rows ++ rest) ≡ Err (length rows)
  unfolding rows_read
  rows_stop [] more rest fits bytes never =
      let n : 0 + suc more ≡ suc more = omega arith in
      rw (n, none_read F s r field rest bytes never) refl
  rows_stop (row ∷ rows) more rest fits bytes never =
      let n : suc (length rows) + suc more ≡ suc (length rows + suc more) = omega arith in
      rw n (ap (λ (b : List ℕ). rows_read r (suc (length rows + suc more)) b) (append_assoc (s row) (flat_map s rows) rest)
      ∙ rw (field.again row (flat_map s rows ++ rest) fits.0) (rw (rows_stop rows more rest fits.1 bytes never) refl))

  -- what is read where rows stand, and where they stop
  pub stand_is_read : (count : ℕ) (bytes rest : List ℕ) (stand : BeginsWithRows F s count bytes rest) → rows_read r count bytes ≡ Ok (stand.rows, rest)
  stand_is_read count bytes rest stand =
      rw (← stand.number, stand.are.spelled) (rows_stand stand.rows rest stand.are.fit)

  pub stop_is_read : (count k : ℕ) (bytes : List ℕ) → IsBytes bytes → LacksRow F s count k bytes → rows_read r count bytes ≡ Err k
  stop_is_read count k bytes fits stop =
      let before = stop.before in
      let behind : IsBytes stop.rest = IsBytes-behind (flat_map s before.rows) stop.rest (subst IsBytes before.are.spelled fits) in
      let fewer : k < count = stop.fewer in
      let number : length before.rows ≡ k = before.number in
      let n : count ≡ length before.rows + suc (count - suc k) = omega arith in
      rw (n, before.are.spelled) (rows_stop before.rows (count - suc k) stop.rest before.are.fit behind stop.none ∙ ap Err before.number)
