-- The rules of name rows are asked in parts: the rows' order, and then their numbers alone.
use Rattle.std.proofs.Common.{◌≡◌, ℕ, ◌&&◌, Bool, true, false, cond, List, [], ◌∷◌, map, min, Option, Some, None, refl, sym, ap, ◌∙◌, arith}
use Rattle.std.proofs.lemmas.Simd.{map-map}
use Rattle.kfs_model.specs.Header.{Header}
use Rattle.kfs_model.specs.PlanRow.{NameRow}
use Rattle.kfs_model.specs.Table.{get}
use Rattle.kfs_model.specs.Sight.{is_directory}
use Rattle.kfs_model.specs.Tree.{name_order}
use Rattle.kfs_model.specs.Device.RawImage.{RawImage, heads_of}
use Rattle.kfs_model.specs.Device.Rules.{with_previous, is_above, directory_test, rule_4, rule_5}
use Rattle.kfs_model.specs.Device.Finding.{least_of, least_failed}
use Rattle.kfs_shape.specs.declared.links.Link.{Link}
use Rattle.kfs_shape.specs.Least.{merged}
use Rattle.kfs_shape.specs.Links.{link_of, AreLinks, inside_test, aim_test}
use Rattle.kfs_shape.specs.Names.{order_test, least_unordered}

-- ---- the lesser of two numbers that may be missing

pub nested : (n : ℕ) (a b : Option ℕ) → ◌≡◌ {A = Option ℕ} (Some (least_of n (merged a b))) (merged (Some (least_of n a)) b)
nested n None b = refl
nested n (Some k) None = refl
nested n (Some k) (Some m) = let same : min n (min k m) ≡ min (min n k) m = grind arith in ap Some same

pub merged_assoc : (a b d : Option ℕ) → merged (merged a b) d ≡ merged a (merged b d)
merged_assoc None b d = refl
merged_assoc (Some n) b d = sym (nested n b d)

nested_behind : (n : ℕ) (a b : Option ℕ) → ◌≡◌ {A = Option ℕ} (Some (least_of n (merged a b))) (merged a (Some (least_of n b)))
nested_behind n None b = refl
nested_behind n (Some k) None = let same : min n k ≡ min k n = grind arith in ap Some same
nested_behind n (Some k) (Some m) = let same : min n (min k m) ≡ min k (min n m) = grind arith in ap Some same

nested_twice : (n : ℕ) (a b : Option ℕ) → ◌≡◌ {A = Option ℕ} (Some (least_of n (merged a b))) (merged (Some (least_of n a)) (Some (least_of n b)))
nested_twice n None None = let same : n ≡ min n n = grind arith in ap Some same
nested_twice n None (Some m) = let same : min n m ≡ min n (min n m) = grind arith in ap Some same
nested_twice n (Some k) None = let same : min n k ≡ min (min n k) n = grind arith in ap Some same
nested_twice n (Some k) (Some m) = let same : min n (min k m) ≡ min (min n k) (min n m) = grind arith in ap Some same

-- a row that is asked two things fails where one of them fails
both_asked : (n : ℕ) (first second : Bool) (a b rest : Option ℕ) → rest ≡ merged a b
    → cond (first && second) rest (Some (least_of n rest)) ≡ merged (cond first a (Some (least_of n a))) (cond second b (Some (least_of n b)))
both_asked n true true a b rest is = is
both_asked n true false a b rest is = ap (λ o. Some (least_of n o)) is ∙ nested_behind n a b
both_asked n false true a b rest is = ap (λ o. Some (least_of n o)) is ∙ nested n a b
both_asked n false false a b rest is = ap (λ o. Some (least_of n o)) is ∙ nested_twice n a b

-- ---- rows, and their links

module _ (raw : RawImage) (links : List Link) (head : ℕ → Option Header) (linked : AreLinks links raw) (shown : (number : ℕ) → head number ≡ get (heads_of raw) number) where
  abbrev heads : ℕ → Option Header
  heads = get (heads_of raw)

  in_two : (previous : Option NameRow) (rows : List NameRow)
      → least_failed (map (directory_test (heads_of raw)) (with_previous previous rows)) ≡ merged (least_failed (map order_test (with_previous previous rows))) (least_failed (map (inside_test heads) (map link_of rows)))
  in_two previous [] = refl
  in_two previous (row ∷ rows) =
      both_asked row.directory (is_above name_order (λ row. (row.directory, row.name)) (previous, row)) (is_directory (heads row.directory)) _ _ _ (in_two (Some row) rows)

  -- rows are out of order, or in no directory
  pub rule_4_in_two : merged (least_unordered raw.names) (least_failed (map (inside_test head) links)) ≡ least_failed (rule_4 raw)
  rule_4_in_two =
      ap (λ links. merged (least_unordered raw.names) (least_failed (map (inside_test head) links))) linked
      ∙ ap (λ head. merged (least_unordered raw.names) (least_failed (map (inside_test head) (map link_of raw.names)))) (λ i number. shown number i)
      ∙ sym (in_two None raw.names)

  pub rule_5_by_links : least_failed (map (aim_test head) links) ≡ least_failed (rule_5 raw)
  rule_5_by_links =
      ap (λ links. least_failed (map (aim_test head) links)) linked
      ∙ ap (λ head. least_failed (map (aim_test head) (map link_of raw.names))) (λ i number. shown number i)
      ∙ ap least_failed (map-map (aim_test heads) link_of raw.names)
