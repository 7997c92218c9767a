-- A mapped list from an index on, and the row of a client.
use Rattle.std.specs.Prelude.{◌≡◌, ℕ, ◌+◌, ◌<◌, ◌≤◌, ◌==◌, Bool, true, false, cond, List, [], ◌∷◌, map, drop, length, slice_index_or, Option, Some, unwrap_or, refl}
use Rattle.kfs_model.specs.Access.{Client}
use Rattle.kfs_model.specs.Lease.{row_of}
use Rattle.std.proofs.lemmas.Bool.{eqb-true}
use Rattle.std.proofs.Common.{ap, sym, ◌∙◌, add-one}
use Rattle.std.proofs.Math.Seq.{drop-cons}
use Rattle.std.proofs.Math.ListN.{drop_of_length-le}

module _ {X Y : Type 0} (f : X → Y) where
  pub map-drop-cons : (xs : List X) (i : ℕ) (x : X) → i < length xs → x ≡ slice_index_or xs i x → map f (drop i xs) ≡ f x ∷ map f (drop (i + 1) xs)
  map-drop-cons xs i x inside is = ap (map f) (drop-cons xs i x inside) ∙ (λ j. f (sym is j) ∷ map f (drop (sym (add-one i) j) xs))

  pub map-drop-past : (xs : List X) (i : ℕ) → length xs ≤ i → map f (drop i xs) ≡ []
  map-drop-past xs i past = ap (map f) (drop_of_length-le xs past)

-- the row of a number has it
pub row_has_number : (rows : List Client) (wanted : ℕ) (client : Client) → row_of rows wanted ≡ Some client → client.number ≡ wanted
row_has_number [] wanted client is = cc
row_has_number (row ∷ rows) wanted client is = at (row_has_number rows wanted client) (row.number == wanted) refl is
  where
    at : (row_of rows wanted ≡ Some client → client.number ≡ wanted) → (same : Bool) → (row.number == wanted) ≡ same → cond same (Some row) (row_of rows wanted) ≡ Some client → client.number ≡ wanted
    at rest true same found = ap (λ (o : Option Client). (unwrap_or o client).number) (sym found) ∙ eqb-true row.number wanted same
    at rest false other found = rest found

pub one_row : (rows : List Client) (wanted : ℕ) (client other : Client) → row_of rows wanted ≡ Some client → row_of rows wanted ≡ Some other → client ≡ other
one_row rows wanted client other is also = ap (λ (o : Option Client). unwrap_or o client) (sym is ∙ also)
