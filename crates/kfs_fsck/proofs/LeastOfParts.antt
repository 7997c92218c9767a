-- The least failed test of a list is the least of those of its parts.
use Rattle.std.proofs.Common.{◌≡◌, ℕ, Bool, true, false, cond, Bor, List, [], ◌∷◌, ◌++◌, map, fold, map-id, Option, Some, None, refl, sym, ap, ◌∙◌, arith}
use Rattle.std.specs.Prelude.{⊤}
use Rattle.std.specs.List.{AllZip}
use Rattle.rayon.specs.Lists.{Reduces, windows_of}
use Rattle.rayon.proofs.Chunks.{windows-head}
use Rattle.rayon.proofs.Reducing.{Reduces-fold}
use Rattle.rayon.proofs.ToStd.{slice-map}
use Rattle.kfs_types.specs.declared.plan.NameRow.{NameRow as CodeNameRow}
use Rattle.kfs_types.specs.Views.{name_row_of}
use Rattle.kfs_model.specs.PlanRow.{NameRow}
use Rattle.kfs_model.specs.Device.Rules.{Test, with_previous}
use Rattle.kfs_model.specs.Device.Finding.{least_of, least_failed}
use Rattle.kfs_shape.specs.Least.{merged}
use Rattle.kfs_shape.specs.Names.{order_test, least_unordered}
use Rattle.kfs_shape.proofs.NameTests.{nested, merged_assoc}
use Rattle.kfs_shape.proofs.Tests.{merged_none}

-- ---- two lists

pub least_of_both : (front back : List Test) → least_failed (front ++ back) ≡ merged (least_failed front) (least_failed back)
least_of_both [] back = refl
least_of_both (t ∷ front) back = at t.holds (least_of_both front back)
  where
    at : (holds : Bool) → least_failed (front ++ back) ≡ merged (least_failed front) (least_failed back)
        → cond holds (least_failed (front ++ back)) (Some (least_of t.number (least_failed (front ++ back)))) ≡ merged (cond holds (least_failed front) (Some (least_of t.number (least_failed front)))) (least_failed back)
    at true rest = rest
    at false rest = ap (λ o. Some (least_of t.number o)) rest ∙ nested t.number (least_failed front) (least_failed back)

-- ---- many parts

-- what threads put together, in any order, is what one thread puts together
pub folded : (found : List (Option ℕ)) (result : Option ℕ) → Reduces (λ e. e ≡ None) (λ a b r. r ≡ merged a b) found result → result ≡ fold merged None found
folded found result reduced =
    Reduces-fold (λ e. e ≡ None) (λ a b r. r ≡ merged a b) (λ o. o) (λ o. ⊤) merged None
    (record { computes = λ a b r p q is. is; closed = λ a b p q. tt; associative = λ a b d p q r. merged_assoc a b d })
    (record { gives = λ e is. is; within = tt; right_unit = λ a p. merged_none a })
    found result (λ k d below. tt) reduced
    ∙ ap (fold merged None) (map-id found)

-- ---- pairs of neighbours

abbrev pub unordered_in : List (CodeNameRow (List ℕ)) → Option ℕ
unordered_in rows = least_unordered (map name_row_of rows)

abbrev pairs_of : List (CodeNameRow (List ℕ)) → List (List (CodeNameRow (List ℕ)))
pairs_of rows = windows_of 2 rows

abbrev behind : NameRow → List (CodeNameRow (List ℕ)) → Option ℕ
behind row rows = least_failed (map order_test (with_previous (Some row) (map name_row_of rows)))

-- the first pair, and then the others
pair_first : (holds : Bool) (number : ℕ) (rest : Option ℕ) → ◌≡◌ {A = Option ℕ} (cond holds rest (Some (least_of number rest))) (merged (cond holds None (Some number)) rest)
pair_first true number rest = refl
pair_first false number rest = refl

fold_pairs : (start : Option ℕ) (rows : List (CodeNameRow (List ℕ))) → fold merged start (map unordered_in (pairs_of rows)) ≡ merged start (unordered_in rows)
fold_pairs start [] = sym (merged_none start)
fold_pairs start (row ∷ []) = sym (merged_none start)
fold_pairs start (row ∷ next ∷ rows) =
    let holds = (order_test (Some (name_row_of row), name_row_of next)).holds in
    ap (λ pairs. fold merged start (map unordered_in pairs)) (windows-head 2 (omega arith) (row ∷ next ∷ rows) (omega arith))
    ∙ fold_pairs (merged start (unordered_in (row ∷ next ∷ []))) (next ∷ rows)
    ∙ merged_assoc start (unordered_in (row ∷ next ∷ [])) (unordered_in (next ∷ rows))
    ∙ ap (merged start) (sym (pair_first holds next.dir (behind (name_row_of next) rows)))

-- the least of the pairs' numbers
pub of_pairs : (rows : List (CodeNameRow (List ℕ))) (pairs : List (Bor (List (CodeNameRow (List ℕ))))) → map (λ (pair : Bor (List (CodeNameRow (List ℕ)))). pair.now) pairs ≡ windows_of 2 rows
    → (found : List (Option ℕ)) → AllZip (λ (pair : Bor (List (CodeNameRow (List ℕ)))) least. least ≡ unordered_in pair.now) pairs found
    → fold merged None found ≡ unordered_in rows
of_pairs rows pairs are found each = ap (fold merged None) (slice-map pairs (windows_of 2 rows) are unordered_in found each) ∙ fold_pairs None rows
