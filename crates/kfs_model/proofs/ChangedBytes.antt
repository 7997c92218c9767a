-- The list of changed bytes has exactly the bytes whose mark isn't a base byte's.
use Rattle.std.proofs.Common.{◌≡◌, ℕ, zero, suc, ◌+◌, Bool, true, false, not, ◌||◌, List, [], ◌∷◌, map, flat_map, slice_get, Option, Some, None, refl, sym, ap, subst, ◌∙◌, ⊎_elim, arith, zero-add}
use Rattle.std.specs.List.{list_any}
use Rattle.std.proofs.lemmas.Bool.{or_cases, or_left, or_right, not-true, not_from_false, false_from_ne_true, both_ways}
use Rattle.std.proofs.lemmas.List.Folds.{list_any-append}
use Rattle.kfs_model.specs.Table.{numbers, get}
use Rattle.kfs_model.specs.Tree.{Tree, Node, content_of}
use Rattle.kfs_model.specs.Run.{Mark}
use Rattle.kfs_model.specs.Plan.{mark_at, is_base}
use Rattle.kfs_model.specs.FirstWrong.{places_where, changed_places, changed_bytes}
use Rattle.kfs_model.proofs.Tables.{found_from_any, any_from_found}

-- the byte is of a file, and isn't as it was before the log
pub record IsChanged (t : Tree Mark) (number place : ℕ) : Type 0 where
  pub mark : Mark
  pub stands : mark_at t number place ≡ Some mark
  pub changed : is_base mark ≡ false

-- a test that some place with a passing cell passes
module _ {X : Type 0} (passes : X → Bool) (test : ℕ → Bool) where
  record PlaceFound (first : ℕ) (xs : List X) : Type 0 where
    place : ℕ
    cell : X
    stands : slice_get xs place ≡ Some cell
    cell_passes : passes cell ≡ true
    place_passes : test (first + place) ≡ true

  place_behind : (first : ℕ) (x : X) (xs : List X) → PlaceFound (first + 1) xs → PlaceFound first (x ∷ xs)
  place_behind first x xs found = record {
    place = suc found.place;
    cell = found.cell;
    stands = found.stands;
    cell_passes = found.cell_passes;
    place_passes = ap test (let e : first + suc found.place ≡ first + 1 + found.place = omega arith in e) ∙ found.place_passes;
  }

  shifted : (first place : ℕ) → first + suc place ≡ first + 1 + place
  shifted first place = omega arith

  unshifted : (first : ℕ) → first + 0 ≡ first
  unshifted first = omega arith

  place_from_any : (first : ℕ) (xs : List X) → list_any test (places_where passes first xs) ≡ true → PlaceFound first xs
  place_from_any first [] any = cc
  place_from_any first (x ∷ xs) any = at (passes x) refl (place_from_any (first + 1) xs) any
    where
      at : (b : Bool) → passes x ≡ b → (list_any test (places_where passes (first + 1) xs) ≡ true → PlaceFound (first + 1) xs)
          → list_any test (elim b [ true ↦ first ∷ places_where passes (first + 1) xs | false ↦ places_where passes (first + 1) xs ]) ≡ true → PlaceFound first (x ∷ xs)
      at true e rest any =
          ⊎_elim
          (λ here. record { place = 0; cell = x; stands = refl; cell_passes = e; place_passes = ap test (unshifted first) ∙ here })
          (λ later. place_behind first x xs (rest later))
          (or_cases (test first) (list_any test (places_where passes (first + 1) xs)) any)
      at false e rest any = place_behind first x xs (rest any)

  any_from_place : (first : ℕ) (xs : List X) (place : ℕ) (cell : X) → slice_get xs place ≡ Some cell → passes cell ≡ true → test (first + place) ≡ true → list_any test (places_where passes first xs) ≡ true
  any_from_place first [] place cell stands cell_passes place_passes = cc
  any_from_place first (x ∷ xs) zero cell stands cell_passes place_passes = at (passes x) (subst (λ c. passes c ≡ true) (sym same) cell_passes)
    where
      same : x ≡ cell
      same = cc

      at : (b : Bool) → b ≡ true → list_any test (elim b [ true ↦ first ∷ places_where passes (first + 1) xs | false ↦ places_where passes (first + 1) xs ]) ≡ true
      at true e = or_left (test first) (list_any test (places_where passes (first + 1) xs)) (ap test (sym (unshifted first)) ∙ place_passes)
      at false e = cc
  any_from_place first (x ∷ xs) (suc place) cell stands cell_passes place_passes = at (passes x) (any_from_place (first + 1) xs place cell stands cell_passes (ap test (sym (shifted first place)) ∙ place_passes))
    where
      at : (b : Bool) → list_any test (places_where passes (first + 1) xs) ≡ true → list_any test (elim b [ true ↦ first ∷ places_where passes (first + 1) xs | false ↦ places_where passes (first + 1) xs ]) ≡ true
      at true rest = or_right (test first) (list_any test (places_where passes (first + 1) xs)) rest
      at false rest = rest

list_any-map : {X Y : Type 0} (test : Y → Bool) (f : X → Y) (xs : List X) → list_any test (map f xs) ≡ list_any (λ x. test (f x)) xs
list_any-map test f [] = refl
list_any-map test f (x ∷ xs) = ap (λ b. test (f x) || b) (list_any-map test f xs)

list_any-flat_map : {X Y : Type 0} (test : Y → Bool) (f : X → List Y) (xs : List X) → list_any test (flat_map f xs) ≡ list_any (λ x. list_any test (f x)) xs
list_any-flat_map test f [] = refl
list_any-flat_map test f (x ∷ xs) = list_any-append test (f x) (flat_map f xs) ∙ ap (λ b. list_any test (f x) || b) (list_any-flat_map test f xs)

module _ (t : Tree Mark) (test : ℕ × ℕ → Bool) where
  in_entry : ℕ × Node Mark → Bool
  in_entry entry = list_any test (changed_places entry)

  any-changed_bytes : list_any test (changed_bytes t) ≡ list_any in_entry t.nodes.entries
  unfolding changed_bytes in_entry
  any-changed_bytes = list_any-flat_map test changed_places t.nodes.entries

  any-in_entry : (number : ℕ) (node : Node Mark) → in_entry (number, node) ≡ list_any (λ place. test (number, place)) (places_where (λ mark. not (is_base mark)) 0 (content_of (Some node)))
  unfolding in_entry
  any-in_entry number node = list_any-map test (λ place. (number, place)) (places_where (λ mark. not (is_base mark)) 0 (content_of (Some node)))

  record ChangedFound : Type 0 where
    number : ℕ
    place : ℕ
    is : IsChanged t number place
    passes : test (number, place) ≡ true

  from_node : (number : ℕ) (node : Node Mark) → get t.nodes number ≡ Some node → in_entry (number, node) ≡ true → ChangedFound
  from_node number node found passes =
      let place = place_from_any (λ mark. not (is_base mark)) (λ place. test (number, place)) 0 (content_of (Some node)) (sym (any-in_entry number node) ∙ passes) in
      record {
        number = number;
        place = place.place;
        is = record { mark = place.cell; stands = ap (λ n. slice_get (content_of n) place.place) found ∙ place.stands; changed = not-true _ place.cell_passes };
        passes = ap (λ p. test (number, p)) (sym (zero-add place.place)) ∙ place.place_passes;
      }

  changed_from_any : list_any test (changed_bytes t) ≡ true → ChangedFound
  unfolding get
  changed_from_any any =
      let (number, node, found, passes) = found_from_any numbers in_entry t.nodes.entries t.nodes.sorted (sym any-changed_bytes ∙ any) in
      from_node number node found passes

  in_node : (number place : ℕ) (node : Option (Node Mark)) → get t.nodes number ≡ node → (mark : Mark) → slice_get (content_of node) place ≡ Some mark → is_base mark ≡ false → test (number, place) ≡ true → list_any test (changed_bytes t) ≡ true
  unfolding get
  in_node number place None found mark stands changed passes = cc
  in_node number place (Some node) found mark stands changed passes =
      let here = any_from_place (λ mark. not (is_base mark)) (λ place. test (number, place)) 0 (content_of (Some node)) place mark stands (not_from_false _ changed) (ap (λ p. test (number, p)) (zero-add place) ∙ passes) in
      any-changed_bytes ∙ any_from_found numbers in_entry t.nodes.entries number node found (any-in_entry number node ∙ here)

  any_from_changed : (number place : ℕ) → IsChanged t number place → test (number, place) ≡ true → list_any test (changed_bytes t) ≡ true
  any_from_changed number place is passes = in_node number place (get t.nodes number) refl is.mark is.stands is.changed passes

  -- no changed byte passes the test exactly where the list has none that does
  pub none_changed : list_any test (changed_bytes t) ≡ false → (number place : ℕ) → IsChanged t number place → test (number, place) ≡ false
  none_changed none number place is = false_from_ne_true _ (λ passes. both_ways _ none (any_from_changed number place is passes))

  pub none_from_changed : ((number place : ℕ) → IsChanged t number place → test (number, place) ≡ false) → list_any test (changed_bytes t) ≡ false
  none_from_changed each = false_from_ne_true _ (λ any. let found = changed_from_any any in both_ways _ (each found.number found.place found.is) found.passes)
