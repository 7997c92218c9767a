-- Tests of node rows by counts of names and by where climbs lead are the tests of the rules.
use Rattle.std.proofs.Common.{◌≡◌, ℕ, ◌≤◌, ◌||◌, List, [], ◌∷◌, map, Option, Some, None, ap, refl}
use Rattle.std.specs.List.{AllByRecursion}
use Rattle.kfs_model.specs.Sight.{is_file}
use Rattle.kfs_model.specs.Tree.{name_count}
use Rattle.kfs_model.specs.Device.RawImage.{RawNode, RawImage, names_of}
use Rattle.kfs_model.specs.Device.Rules.{Test, test, names_fit, names_test, climb_test, reaches_root, rule_1, rule_6, rule_7}
use Rattle.kfs_model.specs.Device.Finding.{least_failed}
use Rattle.kfs_shape.specs.Climbs.{ancestor_at, is_root, top_test}
use Rattle.kfs_shape.specs.NameCounts.{count_in, CountsNames, counted_test}
use Rattle.kfs_shape.proofs.NameCounts.{all_hold}
use Rattle.kfs_shape.proofs.Parents.{nodes_in_range}

-- tests that answer alike for each row
same_tests : {X : Type 0} (P : X → Type 0) (one other : X → Test) → ((x : X) → P x → one x ≡ other x) → (xs : List X) → AllByRecursion P xs → map one xs ≡ map other xs
same_tests P one other alike [] all = refl
same_tests P one other alike (x ∷ xs) all = λ i. alike x all.0 i ∷ same_tests P one other alike xs all.1 i

pub counted_is_rule_6 : (raw : RawImage) (counts : List ℕ) → CountsNames counts raw → least_failed (map (counted_test counts) raw.nodes) ≡ least_failed (rule_6 raw)
counted_is_rule_6 raw counts counted =
    ap least_failed
    (same_tests (λ (row : RawNode). count_in counts row.number ≡ name_count (names_of raw) row.number) (counted_test counts) (names_test (names_of raw))
    (λ row same. ap (λ n. test (names_fit row.header.kind row.number row.header.links n) row.number) same) raw.nodes counted)

module _ (raw : RawImage) (in_range : least_failed (rule_1 raw) ≡ None) where
  numbers_few : AllByRecursion (λ row. row.number ≤ 65536) raw.nodes
  numbers_few = nodes_in_range None raw.nodes (all_hold (rule_1 raw) in_range)

  pub top_is_rule_7 : (tops : List (Option ℕ)) → ((number : ℕ) → is_root (ancestor_at tops number) ≡ reaches_root raw number) → least_failed (map (top_test tops) raw.nodes) ≡ least_failed (rule_7 raw)
  top_is_rule_7 tops reach =
      ap least_failed
      (same_tests (λ (row : RawNode). row.number ≤ 65536) (top_test tops) (climb_test raw)
      (λ row few. ap (λ b. test (is_file (Some row.header) || b) row.number) (reach row.number)) raw.nodes numbers_few)
