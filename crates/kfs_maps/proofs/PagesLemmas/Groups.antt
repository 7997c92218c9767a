-- Pages in groups, and the pages of all groups one behind the other.
use Rattle.std.proofs.Common.{◌≡◌, ◌<◌, ℕ, zero, suc, ◌+◌, ◌-◌, ◌*◌, ◌/◌, ◌%◌, List, [], ◌∷◌, ◌++◌, length, get_or, replicate, Option, Some, None, false, refl, sym, ap, subst, ◌∙◌, arith}
use Rattle.std.proofs.lemmas.List.{append_assoc, length-append, length-replicate, replicate-append-replicate, get_or_append_left, get_or-append_right}
use Rattle.std.specs.declared.sync.Arc.{Arc}
use Rattle.std.specs.List.{AllZip}
use Rattle.std.specs.Option.{is_some}
use Rattle.kfs_maps.specs.declared.pages.page.Group.{Group}
use Rattle.kfs_maps.specs.Pages.Values.{Sheet}
use Rattle.kfs_maps.specs.Pages.Groups.{held, all_held, no_pages, page_in, pages_of, flat, GroupsAreWhole}

module _ {X A : Type 0} where
  pub is_some-held : (place : Option (Arc X A)) → is_some (held place) ≡ is_some place
  is_some-held None = refl
  is_some-held (Some shared) = refl

  pub held_append : (xs ys : List (Option (Arc X A))) → all_held (xs ++ ys) ≡ all_held xs ++ all_held ys
  held_append [] ys = refl
  held_append (x ∷ xs) ys = ap (λ rest. held x ∷ rest) (held_append xs ys)

  pub length-held : (xs : List (Option (Arc X A))) → length (all_held xs) ≡ length xs
  length-held [] = refl
  length-held (x ∷ xs) = ap suc (length-held xs)

  pub get_or-held : (xs : List (Option (Arc X A))) (k : ℕ) → get_or (all_held xs) k None ≡ held (get_or xs k None)
  get_or-held [] k = refl
  get_or-held (x ∷ xs) zero = refl
  get_or-held (x ∷ xs) (suc k) = get_or-held xs k

-- places that hold what others hold, place by place
module _ {X A : Type 0} (P : Option (Arc X A) → Option (Arc X A) → Type 0) (both : (a b : Arc X A) → P (Some a) (Some b) → b.value ≡ a.value) (left : (a : Arc X A) → P (Some a) None → ⊥) (right : (b : Arc X A) → P None (Some b) → ⊥) where
  copied_place : (x y : Option (Arc X A)) → P x y → held y ≡ held x
  copied_place None None same = refl
  copied_place None (Some b) same = absurd (right b same)
  copied_place (Some a) None same = absurd (left a same)
  copied_place (Some a) (Some b) same = ap Some (both a b same)

  pub copied_held : (xs ys : List (Option (Arc X A))) → AllZip P xs ys → all_held ys ≡ all_held xs
  copied_held [] [] same = refl
  copied_held [] (y ∷ ys) same = absurd same
  copied_held (x ∷ xs) [] same = absurd same
  copied_held (x ∷ xs) (y ∷ ys) same =
      let here = copied_place x y same.0 in
      let rest = copied_held xs ys same.1 in
      λ i. here i ∷ rest i

held_none : (X A : Type 0) (count : ℕ) → all_held {X = X} {A = A} (replicate count None) ≡ replicate count None
held_none X A zero = refl
held_none X A (suc count) = ap (λ rest. None ∷ rest) (held_none X A count)

none_at : (V : Type 0) (count k : ℕ) → get_or (replicate {A = Option (Sheet V)} count None) k None ≡ None
none_at V zero k = refl
none_at V (suc count) zero = refl
none_at V (suc count) (suc k) = none_at V count k

pub none_in : (V : Type 0) (place : ℕ) → page_in {V = V} no_pages place ≡ None
unfolding no_pages
none_in V place = none_at V 32 place

module _ {V A : Type 0} where
  pub pages_of-none : (group : Option (Group V A)) → is_some group ≡ false → pages_of group ≡ no_pages
  pages_of-none None none = refl
  pages_of-none (Some group) none = cc

  pub flat_append : (xs ys : List (Option (Group V A))) → flat (xs ++ ys) ≡ flat xs ++ flat ys
  flat_append [] ys = refl
  flat_append (x ∷ xs) ys = ap (λ rest. pages_of x ++ rest) (flat_append xs ys) ∙ sym (append_assoc (pages_of x) (flat xs) (flat ys))

  pub length-flat : (groups : List (Option (Group V A))) → GroupsAreWhole groups → length (flat groups) ≡ 32 * length groups
  length-flat [] whole = refl
  length-flat (group ∷ groups) whole = length-append (pages_of group) (flat groups) ∙ omega (arith, whole.0, length-flat groups whole.1)

  pub whole_front : (xs ys : List (Option (Group V A))) → GroupsAreWhole (xs ++ ys) → GroupsAreWhole xs
  whole_front [] ys whole = tt
  whole_front (x ∷ xs) ys whole = (whole.0, whole_front xs ys whole.1)

  pub whole_back : (xs ys : List (Option (Group V A))) → GroupsAreWhole (xs ++ ys) → GroupsAreWhole ys
  whole_back [] ys whole = whole
  whole_back (x ∷ xs) ys whole = whole_back xs ys whole.1

  pub whole_both : (xs ys : List (Option (Group V A))) → GroupsAreWhole xs → GroupsAreWhole ys → GroupsAreWhole (xs ++ ys)
  whole_both [] ys front back = back
  whole_both (x ∷ xs) ys front back = (front.0, whole_both xs ys front.1 back)

  pub flat_both : (front back : List (Option (Arc (Group V A) A))) → flat (all_held (front ++ back)) ≡ flat (all_held front) ++ flat (all_held back)
  flat_both front back = ap flat (held_append front back) ∙ flat_append (all_held front) (all_held back)

  -- a page of all is one of its group
  page_in-flat : (groups : List (Option (Group V A))) (group place index : ℕ) → GroupsAreWhole groups → place < 32 → index ≡ 32 * group + place → page_in (flat groups) index ≡ page_in (pages_of (get_or groups group None)) place
  page_in-flat [] group place index whole inside at = sym (none_in V place)
  page_in-flat (g ∷ groups) zero place index whole inside at =
      get_or_append_left (pages_of g) (flat groups) None index (omega (arith, at, inside, whole.0)) ∙ ap (λ k. get_or (pages_of g) k None) {x = index} {y = place} (omega (arith, at))
  page_in-flat (g ∷ groups) (suc group) place index whole inside at =
      get_or-append_right (pages_of g) (flat groups) 32 index None whole.0 (omega (arith, at)) ∙ page_in-flat groups group place (index - 32) whole.1 inside (omega (arith, at))

  pub page_in-group : (groups : List (Option (Arc (Group V A) A))) (index : ℕ) → GroupsAreWhole (all_held groups) → page_in (flat (all_held groups)) index ≡ page_in (pages_of (held (get_or groups (index / 32) None))) (index % 32)
  page_in-group groups index whole =
      page_in-flat (all_held groups) (index / 32) (index % 32) index whole (omega arith) (omega arith) ∙ ap (λ group. page_in (pages_of group) (index % 32)) (get_or-held groups (index / 32))

whole_none : (V A : Type 0) (count : ℕ) → GroupsAreWhole {V = V} {A = A} (replicate count None)
unfolding no_pages
whole_none V A zero = tt
whole_none V A (suc count) = (length-replicate {A = Option (Sheet V)} 32 None, whole_none V A count)

flat_none : (V A : Type 0) (count : ℕ) → flat {V = V} {A = A} (replicate count None) ≡ replicate (32 * count) None
unfolding no_pages
flat_none V A zero = refl
flat_none V A (suc count) =
    ap (λ rest. no_pages ++ rest) (flat_none V A count) ∙ replicate-append-replicate 32 (32 * count) None ∙ ap (λ n. replicate n None) {x = 32 + 32 * count} {y = 32 * suc count} (omega arith)

module _ {V A : Type 0} where
  pub blank_pages : (pages : List (Option (Arc (Sheet V) A))) → pages ≡ replicate 32 None → all_held pages ≡ no_pages
  unfolding no_pages
  blank_pages pages none = ap all_held none ∙ held_none (Sheet V) A 32

  pub blank_count : (groups : List (Option (Arc (Group V A) A))) (count : ℕ) → groups ≡ replicate count None → length groups ≡ count
  blank_count groups count none = ap length none ∙ length-replicate {A = Option (Arc (Group V A) A)} count None

  pub blank_whole : (groups : List (Option (Arc (Group V A) A))) (count : ℕ) → groups ≡ replicate count None → GroupsAreWhole (all_held groups)
  blank_whole groups count none = subst GroupsAreWhole (sym (ap all_held none ∙ held_none (Group V A) A count)) (whole_none V A count)

  pub blank_groups : (groups : List (Option (Arc (Group V A) A))) (count : ℕ) → groups ≡ replicate count None → flat (all_held groups) ≡ replicate (32 * count) None
  blank_groups groups count none = ap flat (ap all_held none ∙ held_none (Group V A) A count) ∙ flat_none V A count
