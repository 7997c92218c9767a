-- Where no two rows have one number, the row with a number is the one that a look-up finds.
use Rattle.std.specs.Prelude.{◌≡◌, ℕ, zero, suc, ◌<◌, ◌==◌, Bool, true, false, cond, List, [], ◌∷◌, length, slice_index_or, Contains, None, Some, refl}
use Rattle.std.proofs.Common.{ap, sym, subst, ◌∙◌}
use Rattle.std.proofs.lemmas.Bool.{eqb-true, eq-eqb}
use native.Mathlib.Omega.{arith}
use Rattle.kfs_model.specs.Access.{Client}
use Rattle.kfs_model.specs.Lease.{row_of}
use Rattle.kfs_model.proofs.ClientNumbers.{none_with_number, rest_distinct}
use Rattle.kfs_mode.specs.Clients.{ClientsAreDistinct}

below_rest : (k n : ℕ) → suc k < suc n → k < n
below_rest k n below = omega arith

found_at : (rows : List Client) (row : Client) (k : ℕ) → ClientsAreDistinct rows → k < length rows → slice_index_or rows k row ≡ row → row_of rows row.number ≡ Some row
found_at [] row k distinct below is = absurd (no_place k below)
  where
    no_place : (k : ℕ) → k < 0 → ⊥
    no_place k below = omega arith
found_at (r ∷ rows) row zero distinct below is = subst (λ (c : Client). row_of (c ∷ rows) row.number ≡ Some row) (sym is) first
  where
    first : row_of (row ∷ rows) row.number ≡ Some row
    first = ap (λ t. cond t (Some row) (row_of rows row.number)) (eq-eqb row.number row.number refl)
found_at (r ∷ rows) row (suc k) distinct below is = by_test (found_at rows row k (rest_distinct r rows distinct) (below_rest k (length rows) below) is) (r.number == row.number) refl
  where
    by_test : row_of rows row.number ≡ Some row → (same : Bool) → (r.number == row.number) ≡ same → cond same (Some r) (row_of rows row.number) ≡ Some row
    by_test later true same = absurd (taken (none_with_number r rows distinct) (ap (row_of rows) (eqb-true r.number row.number same) ∙ later))
      where
        taken : row_of rows r.number ≡ None → row_of rows r.number ≡ Some row → ⊥
        taken free held = cc
    by_test later false same = later

-- the row with this number
pub row_is_found : (rows : List Client) (row : Client) (number : ℕ) → ClientsAreDistinct rows → Contains rows row → row.number ≡ number → row_of rows number ≡ Some row
row_is_found rows row number distinct among is = subst (λ n. row_of rows n ≡ Some row) is (found_at rows row among.0 distinct among.1 among.2)
