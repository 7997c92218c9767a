-- Whether a client has a number.
use Rattle.std.specs.Prelude.{◌≡◌, ℕ, zero, suc, ◌<◌, ◌==◌, Bool, true, false, cond, not, List, [], ◌∷◌, length, slice_index_or, Contains, Option, None, Some, is_none, is_some, refl}
use Rattle.std.specs.List.{list_any}
use Rattle.std.proofs.Common.{◌||◌, get_or, take, ap, ◌∙◌, arith}
use Rattle.std.proofs.Math.Seq.{take-suc}
use Rattle.std.proofs.lemmas.List.Folds.{list_any-append}
use Rattle.std.proofs.lemmas.Bool.{eq-eqb}
use Rattle.kfs_model.specs.Access.{Client}
use Rattle.kfs_model.specs.Lease.{row_of}

-- a client of the list with this number is found, or an earlier one with it
pub client_there : (rows : List Client) (row : Client) (number : ℕ) → Contains rows row → row.number ≡ number → is_some (row_of rows number) ≡ true
client_there rows row number among has = at rows among.0 among.1 among.2
  where
    at : (rows : List Client) (k : ℕ) → k < length rows → slice_index_or rows k row ≡ row → is_some (row_of rows number) ≡ true
    at [] k below is = absurd (omega (arith, below))
    at (r ∷ rows) zero below is = ap (λ t. is_some (cond t (Some r) (row_of rows number))) (eq-eqb r.number number (ap (λ (c : Client). c.number) is ∙ has))
    at (r ∷ rows) (suc k) below is = by (r.number == number) (at rows k (omega (arith, below)) is)
      where
        by : (same : Bool) → is_some (row_of rows number) ≡ true → is_some (cond same (Some r) (row_of rows number)) ≡ true
        by true later = refl
        by false later = later

-- what is there isn't none
pub some_not_none : {X : Type 0} (o : Option X) → is_some o ≡ not (is_none o)
some_not_none None = refl
some_not_none (Some x) = refl

-- one is found exactly where one has the number
pub any_is_found : (rows : List Client) (number : ℕ) → is_some (row_of rows number) ≡ list_any (λ (row : Client). row.number == number) rows
any_is_found [] number = refl
any_is_found (r ∷ rows) number = by (r.number == number) (any_is_found rows number)
  where
    by : (same : Bool) → is_some (row_of rows number) ≡ list_any (λ (row : Client). row.number == number) rows
        → is_some (cond same (Some r) (row_of rows number)) ≡ (same || list_any (λ (row : Client). row.number == number) rows)
    by true later = refl
    by false later = later

-- none of the first clients has the number, and the next one hasn't
pub none_further : (rows : List Client) (number i : ℕ) (d : Client) → i < length rows → list_any (λ (row : Client). row.number == number) (take i rows) ≡ false → ((get_or rows i d).number == number) ≡ false
    → list_any (λ (row : Client). row.number == number) (take (suc i) rows) ≡ false
none_further rows number i d below none next =
    ap (list_any (λ (row : Client). row.number == number)) (take-suc rows i d below)
    ∙ list_any-append (λ (row : Client). row.number == number) (take i rows) (get_or rows i d ∷ [])
    ∙ (λ j. none j || (next j || false))
