-- A client that stands in a list is found in it by its number.
use Rattle.std.proofs.Common.{◌≡◌, ◌==◌, ◌<◌, ℕ, zero, suc, Bool, true, false, cond, List, [], ◌∷◌, length, Some, is_some, refl, ap, ◌∙◌, arith}
use Rattle.std.specs.Prelude.{All, Contains, IsTrue, slice_index_or}
use Rattle.std.specs.List.{AllByRecursion}
use Rattle.std.proofs.lemmas.List.Elements.{recursion_from_All}
use Rattle.kfs_model.specs.Access.{Client}
use Rattle.kfs_model.specs.Lease.{row_of}

below_rest : (k n : ℕ) → suc k < suc n → k < n
below_rest k n below = omega arith

stands_at : (rows : List Client) (client : Client) (number k : ℕ) → k < length rows → slice_index_or rows k client ≡ client → (client.number == number) ≡ true → is_some (row_of rows number) ≡ true
stands_at [] client number k below is same = absurd (no_place k below)
  where
    no_place : (k : ℕ) → k < 0 → ⊥
    no_place k below = omega arith
stands_at (row ∷ rows) client number zero below is same =
    ap (λ t. is_some (cond t (Some row) (row_of rows number))) (ap (λ (c : Client). c.number == number) is ∙ same)
stands_at (row ∷ rows) client number (suc k) below is same = by_test (row.number == number) (stands_at rows client number k (below_rest k (length rows) below) is same)
  where
    by_test : (here : Bool) → is_some (row_of rows number) ≡ true → is_some (cond here (Some row) (row_of rows number)) ≡ true
    by_test true later = refl
    by_test false later = later

known_by_recursion : (old new : List Client) (number : ℕ) → AllByRecursion (Contains new) old → is_some (row_of old number) ≡ true → is_some (row_of new number) ≡ true
known_by_recursion [] new number all known = cc
known_by_recursion (client ∷ old) new number all known = by_test (λ found. known_by_recursion old new number all.1 found) (client.number == number) refl known
  where
    by_test : (is_some (row_of old number) ≡ true → is_some (row_of new number) ≡ true) → (here : Bool) → (client.number == number) ≡ here → is_some (cond here (Some client) (row_of old number)) ≡ true → is_some (row_of new number) ≡ true
    by_test later true same found = stands_at new client number all.0.0 all.0.1 all.0.2 same
    by_test later false same found = later found

-- so it is with each of other clients that stand in the list
pub still_known : (old new : List Client) (number : ℕ) → All (Contains new) old → IsTrue (is_some (row_of old number)) → IsTrue (is_some (row_of new number))
still_known old new number all known = known_by_recursion old new number (recursion_from_All (Contains new) old all) known
