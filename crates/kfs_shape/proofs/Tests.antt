-- The least failed test of rows that are gone over one after another.
use Rattle.std.proofs.Common.{◌≡◌, ℕ, ◌+◌, ◌-◌, ◌<◌, ◌≤◌, ◌==◌, Bool, false, cond, List, length, map, drop, get_or, Option, Some, None, slice_get, refl, sym, ap, ◌∙◌, arith}
use Rattle.std.specs.Option.{option_map}
use Rattle.std.proofs.lemmas.Bool.{ne_eqb}
use Rattle.std.proofs.lemmas.List.{drop_more, drop_all}
use Rattle.std.proofs.lemmas.Option.{slice_get-get_or}
use Rattle.kfs_model.specs.Device.Rules.{Test, with_previous}
use Rattle.kfs_model.specs.Device.Finding.{least_of, least_failed}
use Rattle.kfs_shape.specs.Least.{merged, before}

-- the least number so far goes on with the rest
abbrev pub from_test : Test → Option ℕ → Option ℕ
from_test t later = cond t.holds later (Some (least_of t.number later))

module _ {X Y : Type 0} (view : X → Y) where
  -- ---- each row by itself

  abbrev pub rest_failed : (Y → Test) → List X → (index : ℕ) → Option ℕ
  rest_failed tested rows index = least_failed (map tested (map view (drop index rows)))

  pub rest_step : (tested : Y → Test) (rows : List X) (index : ℕ) (d : X) → index < length rows → rest_failed tested rows index ≡ from_test (tested (view (get_or rows index d))) (rest_failed tested rows (index + 1))
  rest_step tested rows index d within = ap (λ xs. least_failed (map tested (map view xs))) (drop_more rows index d within)

  pub rest_at : (tested : Y → Test) (rows : List X) (index : ℕ) (row : X) → index < length rows → row ≡ get_or rows index row → rest_failed tested rows index ≡ from_test (tested (view row)) (rest_failed tested rows (index + 1))
  rest_at tested rows index row within is = rest_step tested rows index row within ∙ ap (λ r. from_test (tested (view r)) (rest_failed tested rows (index + 1))) (sym is)

  pub rest_end : (tested : Y → Test) (rows : List X) (index : ℕ) → length rows ≤ index → rest_failed tested rows index ≡ None
  rest_end tested rows index past = ap (λ xs. least_failed (map tested (map view xs))) (drop_all index rows past)

  -- ---- each row behind the one before it

  abbrev pub rest_ordered : (Option Y × Y → Test) → List X → (index : ℕ) → Option ℕ
  rest_ordered tested rows index = least_failed (map tested (with_previous (option_map view (before rows index)) (map view (drop index rows))))

  not_first : (index : ℕ) → (index + 1 == 0) ≡ false
  not_first index = ne_eqb (index + 1) 0 (λ same. omega arith)

  before_next : (rows : List X) (index : ℕ) (d : X) → index < length rows → before rows (index + 1) ≡ Some (get_or rows index d)
  before_next rows index d within =
      let back : index + 1 - 1 ≡ index = omega arith in
      ap (λ first. cond first None (slice_get rows (index + 1 - 1))) (not_first index) ∙ ap (slice_get rows) back ∙ slice_get-get_or rows index d within

  pub ordered_step : (tested : Option Y × Y → Test) (rows : List X) (index : ℕ) (d : X) → index < length rows
      → rest_ordered tested rows index ≡ from_test (tested (option_map view (before rows index), view (get_or rows index d))) (rest_ordered tested rows (index + 1))
  ordered_step tested rows index d within =
      ap (λ xs. least_failed (map tested (with_previous (option_map view (before rows index)) (map view xs)))) (drop_more rows index d within)
      ∙ ap (λ o. from_test (tested (option_map view (before rows index), view (get_or rows index d))) (least_failed (map tested (with_previous (option_map view o) (map view (drop (index + 1) rows)))))) (sym (before_next rows index d within))

  pub ordered_at : (tested : Option Y × Y → Test) (rows : List X) (index : ℕ) (row : X) → index < length rows → row ≡ get_or rows index row
      → rest_ordered tested rows index ≡ from_test (tested (option_map view (before rows index), view row)) (rest_ordered tested rows (index + 1))
  ordered_at tested rows index row within is =
      ordered_step tested rows index row within
      ∙ ap (λ r. from_test (tested (option_map view (before rows index), view r)) (rest_ordered tested rows (index + 1))) (sym is)

  pub ordered_end : (tested : Option Y × Y → Test) (rows : List X) (index : ℕ) → length rows ≤ index → rest_ordered tested rows index ≡ None
  ordered_end tested rows index past = ap (λ xs. least_failed (map tested (with_previous (option_map view (before rows index)) (map view xs)))) (drop_all index rows past)

-- a test that is made takes the least number on to the rows behind it
abbrev pub TakesIn : (least : Option ℕ) → (holds : Bool) → (number : ℕ) → (result : Option ℕ) → Type 0
TakesIn least holds number result = (later : Option ℕ) → merged result later ≡ merged least (cond holds later (Some (least_of number later)))

pub taken_in : (t : Test) (holds : Bool) (least result here later total : Option ℕ) → TakesIn least holds t.number result → holds ≡ t.holds → here ≡ from_test t later → merged least here ≡ total → merged result later ≡ total
taken_in t holds least result here later total takes same next so_far =
    takes later ∙ ap (λ b. merged least (cond b later (Some (least_of t.number later)))) same ∙ ap (merged least) (sym next) ∙ so_far

pub merged_none : (least : Option ℕ) → merged least None ≡ least
merged_none None = refl
merged_none (Some n) = refl
