-- Rows of the code as rows of the definitions.
use Rattle.std.proofs.Common.{◌≡◌, ℕ, List, [], ◌∷◌, ◌++◌, length, refl, sym, ap, ◌∙◌}
use Rattle.std.specs.List.{flat_map, AllByRecursion}
use Rattle.std.proofs.lemmas.List.{length-map}
use Rattle.std.specs.Prelude.{map}
use Rattle.kfs_model.specs.Spelling.{AreRows, Begins, BeginsWithRows, LacksRow, LacksRowBy}

-- what is encoded of the values that the rows stand for
pub flat_map-map : {R V : Type 0} (view : R → V) (spelling : V → List ℕ) (rows : List R) → flat_map spelling (map view rows) ≡ flat_map (λ r. spelling (view r)) rows
flat_map-map view spelling [] = refl
flat_map-map view spelling (row ∷ rows) = ap (λ (l : List ℕ). spelling (view row) ++ l) (flat_map-map view spelling rows)

pub both_hold : {R V : Type 0} (view : R → V) (P : R → Type 0) (Q : V → Type 0) (rows : List R) → AllByRecursion P rows → AllByRecursion Q (map view rows) → AllByRecursion (λ r. P r × Q (view r)) rows
both_hold view P Q [] all each = tt
both_hold view P Q (row ∷ rows) all each = ((all.0, each.0), both_hold view P Q rows all.1 each.1)

-- what holds of each row, of the values that the rows stand for
pub map_holds : {R V : Type 0} (view : R → V) (P : R → Type 0) (Q : V → Type 0) → ((r : R) → P r → Q (view r)) → (rows : List R) → AllByRecursion P rows → AllByRecursion Q (map view rows)
map_holds view P Q f [] all = tt
map_holds view P Q f (row ∷ rows) all = (f row all.0, map_holds view P Q f rows all.1)

pub AllByRecursion-weaker : {R : Type 0} (P Q : R → Type 0) → ((r : R) → P r → Q r) → (rows : List R) → AllByRecursion P rows → AllByRecursion Q rows
AllByRecursion-weaker P Q f [] all = tt
AllByRecursion-weaker P Q f (row ∷ rows) all = (f row all.0, AllByRecursion-weaker P Q f rows all.1)

-- rows of the code, as rows of the definitions
module _ {R V : Type 0} (view : R → V) (fits : R → Type 0) (F : V → Type 0) (s : V → List ℕ) (fit_too : (r : R) → fits r → F (view r)) where
  abbrev pub stand_from : (rows : List R) (count : ℕ) (bytes rest : List ℕ) → length rows ≡ count → AreRows fits (λ r. s (view r)) rows bytes rest → BeginsWithRows F s count bytes rest
  stand_from rows count bytes rest number are = record {
    rows = map view rows;
    number = length-map rows view ∙ number;
    are = record {
      fit = map_holds view fits F fit_too rows are.fit;
      spelled = are.spelled ∙ ap (λ (l : List ℕ). l ++ rest) (sym (flat_map-map view s rows));
    };
  }

  pub stop_from : (count k : ℕ) (bytes : List ℕ) → LacksRowBy fits (λ r. s (view r)) (Begins F s) count k bytes → LacksRow F s count k bytes
  stop_from count k bytes stops = record {
    rest = stops.rest;
    before = stand_from stops.before.rows k bytes stops.rest stops.before.number stops.before.are;
    fewer = stops.fewer;
    none = stops.none;
  }
