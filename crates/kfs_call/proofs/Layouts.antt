-- The laws of a layout: where a value is read it stands there, where none is the first missing field is
-- told, and what is written is read.
use Rattle.std.proofs.Common.{◌≡◌, ℕ, zero, suc, ◌+◌, ◌<◌, ◌≤◌, List, [], ◌∷◌, ◌++◌, length, take, map, Option, Some, None, Result, Ok, Err, refl, sym, ap, subst, ◌∙◌, append_assoc, arith}
use Rattle.std.specs.List.{AllByRecursion}
use Rattle.kfs_model.specs.Spelling.{IsBytes}
use Rattle.kfs_model.proofs.Fields.{IsField, some_is}
use Rattle.kfs_call.specs.Layout.{joined, BeginsWithFields, LacksField}
use Rattle.kfs_call.specs.Readers.{with_option, made_of, step, end, rows_at}

-- ---- laws

-- the value stands there, before bytes; or the fields that come before and this many, and not the next
abbrev pub Found : {V : Type 0} → (V → Type 0) → (V → List (List ℕ)) → (n : ℕ) → List ℕ → Result (V × List ℕ) ℕ → Type 0
Found Fits fields n bytes (Ok x) = Fits x.0 × (bytes ≡ joined (fields x.0) ++ x.1) × IsBytes x.1
Found Fits fields n bytes (Err k) = (j : ℕ) × (k ≡ n + j) × LacksField Fits fields j bytes

pub record IsLayout {V : Type 0} (Fits : V → Type 0) (fields : V → List (List ℕ)) (n : ℕ) (read : List ℕ → Result (V × List ℕ) ℕ) : Type 0 where
  pub some : V
  pub some_fits : Fits some
  pub takes : (bytes : List ℕ) → IsBytes bytes → Found Fits fields n bytes (read bytes)
  pub again : (value : V) (rest : List ℕ) → Fits value → read (joined (fields value) ++ rest) ≡ Ok (value, rest)

abbrev nothing : Unit {0} → Type 0
nothing _ = Unit {0}

pub end_layout : (n : ℕ) → IsLayout nothing (λ _. []) n end
end_layout n = record {
  some = tt;
  some_fits = tt;
  takes = λ bytes fits. (tt, refl, fits);
  again = λ value rest fits. refl;
}

-- ---- one field more

module _ {V W : Type 0} (F : V → Type 0) (s : V → List ℕ) (r : List ℕ → Option (V × List ℕ)) (G : V → W → Type 0) (t : V → W → List (List ℕ)) (q : V → List ℕ → Result (W × List ℕ) ℕ) (n : ℕ)
    (field : IsField F s r) (one : V) (one_fits : F one) (rest_of : (v : V) → F v → IsLayout (G v) (t v) (suc n) (q v)) where
  abbrev pub Both : V × W → Type 0
  Both p = F p.0 × G p.0 p.1

  abbrev pub fields_of : V × W → List (List ℕ)
  fields_of p = s p.0 ∷ t p.0 p.1

  first : (v : V) (w : W) (k : ℕ) (rest : List ℕ) → joined (take (suc k) (fields_of (v, w))) ++ rest ≡ s v ++ (joined (take k (t v w)) ++ rest)
  first v w k rest = append_assoc (s v) (joined (take k (t v w))) rest

  whole : (v : V) (w : W) (rest : List ℕ) → joined (fields_of (v, w)) ++ rest ≡ s v ++ (joined (t v w) ++ rest)
  whole v w rest = append_assoc (s v) (joined (t v w)) rest

  -- no first field: no value begins
  none_at_all : (bytes : List ℕ) → r bytes ≡ None → LacksField Both fields_of 0 bytes
  none_at_all bytes is = record {
    value = (one, (rest_of one one_fits).some);
    rest = bytes;
    fits = (one_fits, (rest_of one one_fits).some_fits);
    more = omega arith;
    before = refl;
    none = λ begins.
        let p = begins.0 in
        let parts : bytes ≡ s p.0 ++ (joined (take 0 (t p.0 p.1)) ++ begins.1) = begins.4 ∙ first p.0 p.1 0 begins.1 in
        let again : r bytes ≡ Some (p.0, joined (take 0 (t p.0 p.1)) ++ begins.1) = ap r parts ∙ field.again p.0 (joined (take 0 (t p.0 p.1)) ++ begins.1) begins.2.0 in
        cc;
  }

  -- the field stands, and its rest lacks one
  lacks_behind : (bytes : List ℕ) (v : V) (behind : List ℕ) (j : ℕ) → F v → bytes ≡ s v ++ behind → LacksField (G v) (t v) j behind → LacksField Both fields_of (suc j) bytes
  lacks_behind bytes v behind j fits parts lacks = record {
    value = (v, lacks.value);
    rest = lacks.rest;
    fits = (fits, lacks.fits);
    more = let more : j < length (t v lacks.value) = lacks.more in omega arith;
    before = parts ∙ ap (λ (l : List ℕ). s v ++ l) lacks.before ∙ sym (first v lacks.value j lacks.rest);
    none = λ begins.
        let p = begins.0 in
        let other : bytes ≡ s p.0 ++ (joined (take (suc j) (t p.0 p.1)) ++ begins.1) = begins.4 ∙ first p.0 p.1 (suc j) begins.1 in
        let here : r bytes ≡ Some (v, behind) = ap r parts ∙ field.again v behind fits in
        let there : r bytes ≡ Some (p.0, joined (take (suc j) (t p.0 p.1)) ++ begins.1) = ap r other ∙ field.again p.0 (joined (take (suc j) (t p.0 p.1)) ++ begins.1) begins.2.0 in
        let enough : suc j ≤ length (t p.0 p.1) = let all : suc (suc j) ≤ suc (length (t p.0 p.1)) = begins.3 in omega arith in
        let found : V × List ℕ = (v, behind) in
        let again : V × List ℕ = (p.0, joined (take (suc j) (t p.0 p.1)) ++ begins.1) in
        let same : found ≡ again = some_is found again (sym here ∙ there) in
        let same_value : p.0 ≡ v = sym (ap (λ (x : V × List ℕ). x.0) same) in
        let same_rest : behind ≡ joined (take (suc j) (t p.0 p.1)) ++ begins.1 = ap (λ (x : V × List ℕ). x.1) same in
        let given : BeginsWithFields (G p.0) (t p.0) (suc j) behind = (p.1, begins.1, begins.2.1, enough, same_rest) in
        lacks.none (subst (λ (x : V). BeginsWithFields (G x) (t x) (suc j) behind) same_value given);
  }

  behind_takes : (bytes : List ℕ) (v : V) (behind : List ℕ) → F v → bytes ≡ s v ++ behind → (found : Result (W × List ℕ) ℕ) → Found (G v) (t v) (suc n) behind found
      → Found Both fields_of n bytes (made_of (λ y. (v, y)) found)
  behind_takes bytes v behind fits parts (Ok y) found = ((fits, found.0), parts ∙ ap (λ (l : List ℕ). s v ++ l) found.1 ∙ sym (whole v y.0 y.1), found.2)
  behind_takes bytes v behind fits parts (Err k) found = let is : k ≡ suc n + found.0 = found.1 in (suc found.0, omega arith, lacks_behind bytes v behind found.0 fits parts found.2)

  step_takes : (bytes : List ℕ) → IsBytes bytes → (o : Option (V × List ℕ)) → r bytes ≡ o → Found Both fields_of n bytes (with_option o (Err n) (λ x. made_of (λ y. (x.0, y)) (q x.0 x.1)))
  step_takes bytes are None is = (0, omega arith, none_at_all bytes is)
  step_takes bytes are (Some x) is =
      let stands = field.takes bytes x are is in
      behind_takes bytes x.0 x.1 stands.fits stands.parts (q x.0 x.1) ((rest_of x.0 stands.fits).takes x.1 stands.rest_bytes)

  pub step_layout : IsLayout Both fields_of n (step n r q)
  step_layout = record {
    some = (one, (rest_of one one_fits).some);
    some_fits = (one_fits, (rest_of one one_fits).some_fits);
    takes = λ bytes are. step_takes bytes are (r bytes) refl;
    again = λ value rest fits.
        ap (step n r q) (whole value.0 value.1 rest)
        ∙ ap (λ o. with_option o (Err n) (λ x. made_of (λ y. (x.0, y)) (q x.0 x.1))) (field.again value.0 (joined (t value.0 value.1) ++ rest) fits.0)
        ∙ ap (made_of (λ y. (value.0, y))) ((rest_of value.0 fits.0).again value.1 rest fits.1);
  }

-- ---- a value made of others

module _ {V W : Type 0} (F : V → Type 0) (t : V → List (List ℕ)) (n : ℕ) (r : List ℕ → Result (V × List ℕ) ℕ) (layout : IsLayout F t n r) (f : V → W) (G : W → Type 0) (u : W → List (List ℕ))
    (back : (w : W) → G w → (v : V) × F v × (f v ≡ w)) (fit : (v : V) → F v → G (f v)) (spelled : (v : V) → F v → u (f v) ≡ t v) where
  lacks_made : (bytes : List ℕ) (k : ℕ) → LacksField F t k bytes → LacksField G u k bytes
  lacks_made bytes k lacks = record {
    value = f lacks.value;
    rest = lacks.rest;
    fits = fit lacks.value lacks.fits;
    more = subst (λ (l : List (List ℕ)). k < length l) (sym (spelled lacks.value lacks.fits)) lacks.more;
    before = subst (λ (l : List (List ℕ)). bytes ≡ joined (take k l) ++ lacks.rest) (sym (spelled lacks.value lacks.fits)) lacks.before;
    none = λ begins.
        let v = back begins.0 begins.2 in
        let same : u begins.0 ≡ t v.0 = ap u (sym v.2) ∙ spelled v.0 v.1 in
        lacks.none (
          v.0,
          begins.1,
          v.1,
          subst (λ (l : List (List ℕ)). suc k ≤ length l) same begins.3,
          subst (λ (l : List (List ℕ)). bytes ≡ joined (take (suc k) l) ++ begins.1) same begins.4,
        );
  }

  made_found : (bytes : List ℕ) (found : Result (V × List ℕ) ℕ) → Found F t n bytes found → Found G u n bytes (made_of f found)
  made_found bytes (Ok x) found = (fit x.0 found.0, found.1 ∙ ap (λ (l : List (List ℕ)). joined l ++ x.1) (sym (spelled x.0 found.0)), found.2)
  made_found bytes (Err k) found = (found.0, found.1, lacks_made bytes found.0 found.2)

  pub made_layout : IsLayout G u n (λ bytes. made_of f (r bytes))
  made_layout = record {
    some = f layout.some;
    some_fits = fit layout.some layout.some_fits;
    takes = λ bytes are. made_found bytes (r bytes) (layout.takes bytes are);
    again = λ value rest fits.
        let v = back value fits in
        let same : u value ≡ t v.0 = ap u (sym v.2) ∙ spelled v.0 v.1 in
        ap (λ (l : List (List ℕ)). made_of f (r (joined l ++ rest))) same ∙ ap (made_of f) (layout.again v.0 rest v.1) ∙ ap (λ (w : W). Ok (w, rest)) v.2;
  }

-- ---- rows

module _ {V : Type 0} (F : V → Type 0) (s : V → List ℕ) (r : List ℕ → Option (V × List ℕ)) (field : IsField F s r) (one : V) (one_fits : F one) where
  abbrev pub SoMany : (count : ℕ) → List V → Type 0
  SoMany count rows = (length rows ≡ count) × AllByRecursion F rows

  first_and_rest : (count : ℕ) (rows : List V) → SoMany (suc count) rows → (p : V × List V) × (F p.0 × SoMany count p.1) × (p.0 ∷ p.1 ≡ rows)
  first_and_rest count [] many = let none : 0 ≡ suc count = many.0 in absurd (omega arith)
  first_and_rest count (row ∷ rows) many = ((row, rows), (many.1.0, (let n : suc (length rows) ≡ suc count = many.0 in let e : length rows ≡ count = omega arith in e, many.1.1)), refl)

  abbrev rows_of_none : List ℕ → Result (List V × List ℕ) ℕ
  rows_of_none bytes = Ok ([], bytes)

  pub rows_layout : (count n : ℕ) → IsLayout (SoMany count) (map s) n (rows_at r n count)
  unfolding rows_at
  rows_layout zero n = record {
    some = [];
    some_fits = (refl, tt);
    takes = λ bytes are. ((refl, tt), refl, are);
    again = no_rows;
  }
    where
      no_rows : (value : List V) (rest : List ℕ) → SoMany zero value → rows_of_none (joined (map s value) ++ rest) ≡ Ok (value, rest)
      no_rows [] rest fits = refl
      no_rows (row ∷ rows) rest fits = let n : suc (length rows) ≡ 0 = fits.0 in absurd (omega arith)
  rows_layout (suc count) n =
      made_layout _ _ n _ (step_layout F s r (λ row. SoMany count) (λ row. map s) (λ row. rows_at r (suc n) count) n field one one_fits (λ row fits. rows_layout count (suc n)))
      (λ p. p.0 ∷ p.1) (SoMany (suc count)) (map s) (first_and_rest count) (λ p fits. (ap suc fits.1.0, (fits.0, fits.1.1))) (λ p fits. refl)
