-- The places that are chosen for blocks: each is free and lies in tier 0, and no two are the same.
use Rattle.std.proofs.Common.{◌≡◌, ◌≢◌, ℕ, zero, suc, ◌+◌, ◌<◌, ◌==◌, Bool, true, List, [], ◌∷◌, length, get_or, sym, subst, ◌∙◌, arith, eqb-true, eq-eqb}
use Rattle.std.specs.Prelude.{All}
use Rattle.std.specs.List.{list_any}
use Rattle.std.proofs.lemmas.Bool.{and_parts, both_ways, not-true, true_from_ne_false}
use Rattle.std.proofs.lemmas.List.Elements.{All-cons, All-filter, All-nil, filter_passes}
use Rattle.std.proofs.lemmas.List.Folds.{Any-from_list_any, list_all_at, list_any_at}
use Rattle.kfs_model.specs.Distinct.{are_distinct}
use Rattle.kfs_model.specs.Judgement.{State, free_places}
use Rattle.kfs_model.specs.Machine.{are_chosen}
use Rattle.kfs_model.specs.Placement.{below, in_first_tier, is_free, numbers_from}

numbers_below : (end first count : ℕ) → first + count ≡ end → All (λ n. n < end) (numbers_from first count)
numbers_below end first zero ends = All-nil (λ n. n < end)
numbers_below end first (suc count) ends = All-cons (λ n. n < end) first (numbers_from (first + 1) count) (omega (arith, ends)) (numbers_below end (first + 1) count (omega (arith, ends)))

distinct_at : (numbers : List ℕ) → are_distinct numbers ≡ true → (i j d : ℕ) → i < j → j < length numbers → get_or numbers i d ≢ get_or numbers j d
distinct_at [] distinct i j d less inside = absurd (omega (arith, inside))
distinct_at (n ∷ ns) distinct i zero d less inside = absurd (omega (arith, less))
distinct_at (n ∷ ns) distinct zero (suc j) d less inside = λ same.
    both_ways (list_any (λ other. other == n) ns) (not-true _ (and_parts _ _ distinct).0) (list_any_at (λ other. other == n) ns j d (omega (arith, inside)) (eq-eqb (get_or ns j d) n (sym same)))
distinct_at (n ∷ ns) distinct (suc i) (suc j) d less inside = distinct_at ns (and_parts _ _ distinct).1 i j d (omega (arith, less)) (omega (arith, inside))

module _ (s : State) where
  is_one_free : (n : ℕ) → list_any (λ free. free == n) (free_places s) ≡ true → (is_free s.placement (in_first_tier n) ≡ true) × (n < s.sizes.first)
  unfolding free_places
  is_one_free n among =
      let test : ℕ → Bool = λ place. is_free s.placement (in_first_tier place) in
      let (k, place, inside, at, same) = Any-from_list_any (λ free. free == n) (free_places s) among in
      let is : get_or (free_places s) k place ≡ n = at ∙ eqb-true place n same in
      let free = filter_passes test (below s.sizes.first) k place inside in
      let low = All-filter test (λ n. n < s.sizes.first) (below s.sizes.first) (numbers_below s.sizes.first 0 s.sizes.first (omega arith)) k place inside in
      (subst (λ place. test place ≡ true) is free, subst (λ place. place < s.sizes.first) is low)

module _ (s : State) (blocks : List (ℕ × ℕ)) (places : List ℕ) (chosen : are_chosen s blocks places ≡ true) where
  pub chosen_many : length places ≡ length blocks
  chosen_many = eqb-true (length places) (length blocks) (and_parts _ _ (and_parts _ _ chosen).0).0

  pub chosen_apart : (i j d : ℕ) → i < j → j < length places → get_or places i d ≢ get_or places j d
  chosen_apart = distinct_at places (and_parts _ _ chosen).1

  pub chosen_free : (k d : ℕ) → k < length places → (is_free s.placement (in_first_tier (get_or places k d)) ≡ true) × (get_or places k d < s.sizes.first)
  chosen_free k d inside =
      let among : ℕ → Bool = λ place. list_any (λ free. free == place) (free_places s) in
      is_one_free s (get_or places k d) (true_from_ne_false _ (λ none. both_ways _ (list_all_at among places k d inside none) (and_parts _ _ (and_parts _ _ chosen).0).1))
