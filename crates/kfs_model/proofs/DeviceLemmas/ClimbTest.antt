-- A climb that reaches the root takes no more steps than there are node rows, so the test of a climb finds each.
use Rattle.std.proofs.Common.{◌≡◌, ℕ, zero, suc, ◌≤◌, ◌==◌, eqb, Bool, true, false, List, ◌∷◌, length, map, Option, Some, None, refl, subst, ◌∙◌, arith, eq-eqb}
use Rattle.std.specs.Cmp.{nat_eq_equiv}
use Rattle.std.specs.List.{list_any}
use Rattle.std.proofs.lemmas.Bool.{or_left, or_right}
use Rattle.std.proofs.lemmas.List.{length-map}
use Rattle.std.proofs.lemmas.Map.Made.{length-le_from_is_member}
use Rattle.kfs_model.specs.Header.{Header}
use Rattle.kfs_model.specs.Table.{numbers, get}
use Rattle.kfs_model.specs.Sight.{climb_meets}
use Rattle.kfs_model.specs.Soundness.{Climbs}
use Rattle.kfs_model.proofs.Heads.{root_has_none, has_parent}
use Rattle.kfs_model.proofs.Climb.{passed, passed_long, climb_from, passed_once}
use Rattle.kfs_model.specs.Device.RawImage.{RawImage, node_entry, heads_of, names_of}
use Rattle.kfs_model.specs.Device.Rules.{parent_of, reaches_root}
use Rattle.kfs_model.proofs.DeviceLemmas.Among.{among_map}
use Rattle.kfs_model.proofs.DeviceLemmas.OnlyOne.{any_among}
use Rattle.kfs_model.proofs.DeviceLemmas.RowTables.{get_among}
use Rattle.kfs_model.proofs.DeviceLemmas.SoundImage.{climb_from_test, some_directory}

-- a climb of no more steps than the fuel is met
meets_from_climb : (parent : ℕ → Option ℕ) (fuel steps from to : ℕ) → steps ≤ fuel → Climbs parent steps from to → climb_meets parent fuel to from ≡ true
unfolding climb_meets
meets_from_climb parent zero zero from to fits climb = eq-eqb from to climb
meets_from_climb parent zero (suc steps) from to fits climb = absurd (omega arith)
meets_from_climb parent (suc fuel) zero from to fits climb = at (from == to) (eq-eqb from to climb)
  where
    at : (here : Bool) → here ≡ true → ◌≡◌ {A = Bool} (elim here [ true ↦ true | false ↦ elim (parent from) [ None ↦ false | Some up ↦ climb_meets parent fuel to up ] ]) true
    at true is = refl
    at false is = cc
meets_from_climb parent (suc fuel) (suc steps) from to fits climb = at (from == to) (parent from) climb.1 (meets_from_climb parent fuel steps climb.0 to (omega arith) climb.2)
  where
    at : (here : Bool) (next : Option ℕ) → next ≡ Some climb.0 → climb_meets parent fuel to climb.0 ≡ true → ◌≡◌ {A = Bool} (elim here [ true ↦ true | false ↦ elim next [ None ↦ false | Some up ↦ climb_meets parent fuel to up ] ]) true
    at true next is rest = refl
    at false None is rest = cc
    at false (Some up) is rest = let same : climb.0 ≡ up = cc in subst (λ k. climb_meets parent fuel to k ≡ true) same rest

module _ (raw : RawImage) where
  root_ends : parent_of raw 1 ≡ None
  root_ends = root_has_none (get (heads_of raw)) (names_of raw)

  abbrev listed : List ℕ
  listed = map (λ (e : ℕ × Header). e.0) (map node_entry raw.nodes)

  length-listed : length listed ≡ length raw.nodes
  length-listed = length-map (map node_entry raw.nodes) (λ (e : ℕ × Header). e.0) ∙ length-map raw.nodes node_entry

  -- a node that is passed is the root or has a row
  passed_is_listed : (steps k : ℕ) → Climbs (parent_of raw) steps k 1 → list_any (eqb k) (1 ∷ listed) ≡ true
  passed_is_listed zero k climb = or_left (k == 1) _ (eq-eqb k 1 climb)
  passed_is_listed (suc steps) k climb =
      let directory = (has_parent (get (heads_of raw)) (names_of raw) k climb.0 climb.1).0 in
      let (h, is, kind) = some_directory (get (heads_of raw) k) directory in
      let row = among_map (λ (e : ℕ × Header). e.0) (map node_entry raw.nodes) (k, h) (get_among numbers (map node_entry raw.nodes) k h is) in
      or_right (k == 1) _ (any_among (eqb k) listed k row (eq-eqb k k refl))

  few_steps : (steps from : ℕ) → Climbs (parent_of raw) steps from 1 → steps ≤ length raw.nodes
  few_steps steps from climb =
      let short = length-le_from_is_member nat_eq_equiv (passed (parent_of raw) root_ends steps from climb) (1 ∷ listed) (passed_once (parent_of raw) root_ends steps from climb)
      (λ k any. let (fewer, fits, rest) = climb_from (parent_of raw) root_ends steps from climb k any in passed_is_listed fewer k rest) in
      omega (arith, passed_long (parent_of raw) root_ends steps from climb, length-listed)

  pub reach_is_found : (number steps : ℕ) → Climbs (parent_of raw) steps number 1 → reaches_root raw number ≡ true
  reach_is_found number steps climb = meets_from_climb (parent_of raw) (length raw.nodes) steps number 1 (few_steps steps number climb) climb

  pub found_is_reach : (number : ℕ) → reaches_root raw number ≡ true → (steps : ℕ) × Climbs (parent_of raw) steps number 1
  found_is_reach number meets = climb_from_test (parent_of raw) (length raw.nodes) 1 number meets
