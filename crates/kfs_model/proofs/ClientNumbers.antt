-- Rows of clients no two of which have one number.
use Rattle.std.proofs.Common.{◌≡◌, ℕ, ◌==◌, true, false, cond, not, ◌||◌, List, [], ◌∷◌, map, Option, Some, None, is_some, refl, sym, ◌∙◌}
use Rattle.std.specs.List.{list_any}
use Rattle.std.proofs.lemmas.Bool.{and_parts, not-true}
use Rattle.kfs_model.specs.Access.{Client, ClientsAreDistinct}
use Rattle.kfs_model.specs.Distinct.{are_distinct}
use Rattle.kfs_model.specs.Lease.{row_of}

abbrev pub numbers_of : List Client → List ℕ
numbers_of rows = map (λ (row : Client). row.number) rows

-- a row with the number is found where the number is one of theirs
has_number : (rows : List Client) (number : ℕ) → list_any (λ other. other == number) (numbers_of rows) ≡ is_some (row_of rows number)
has_number [] number = refl
has_number (row ∷ rows) number =
    elim (row.number == number) as (λ b. (b || list_any (λ other. other == number) (numbers_of rows)) ≡ is_some (cond b (Some row) (row_of rows number))) [
      | true ↦ refl
      | false ↦ has_number rows number
    ]

module _ (row : Client) (rows : List Client) (distinct : ClientsAreDistinct (row ∷ rows)) where
  -- the others are distinct, and none of them has its number
  pub first_alone : list_any (λ other. other == row.number) (numbers_of rows) ≡ false
  first_alone = not-true _ (and_parts (not (list_any (λ other. other == row.number) (numbers_of rows))) (are_distinct (numbers_of rows)) distinct).0

  pub rest_distinct : ClientsAreDistinct rows
  rest_distinct = (and_parts (not (list_any (λ other. other == row.number) (numbers_of rows))) (are_distinct (numbers_of rows)) distinct).1

  pub none_with_number : row_of rows row.number ≡ None
  none_with_number = by (row_of rows row.number) (sym (has_number rows row.number) ∙ first_alone)
    where
      by : (found : Option Client) → is_some found ≡ false → found ≡ None
      by None is = refl
      by (Some row) is = cc
