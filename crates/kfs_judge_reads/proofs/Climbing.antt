-- A climb along the parents, one step at a time, and the cells of the nodes that it passes.
use Rattle.std.specs.Prelude.{◌≡◌, ℕ, suc, zero, ◌==◌, Bool, true, false, List, [], ◌∷◌, map, Contains, Option, Some, None, refl}
use Rattle.std.proofs.Common.{ap, sym, subst, ◌∙◌}
use Rattle.std.proofs.lemmas.Bool.{eq-eqb, ne_eqb}
use Rattle.kfs_model.specs.Sight.{Cell, ParentOf, climb_meets, climbed}
use Rattle.kfs_judge_reads.specs.Climbs.{climbed_cells}
use Rattle.kfs_judge_reads.specs.Reads.{IsPart}
use Rattle.kfs_judge_reads.proofs.Recording.{first_is_in, one_is_part, right_is_part}

module _ (parent : ℕ → Option ℕ) where
  by_step : (fuel node from : ℕ) (same : Bool) (up : Option ℕ) → (from == node) ≡ same → parent from ≡ up
      → climb_meets parent (suc fuel) node from ≡ elim same [ true ↦ true | false ↦ elim up [ None ↦ false | Some next ↦ climb_meets parent fuel node next ] ]
  unfolding climb_meets
  by_step fuel node from same up is leads = λ i. elim (is i) as (λ _. Bool) [ true ↦ true | false ↦ elim (leads i) as (λ _. Bool) [ None ↦ false | Some next ↦ climb_meets parent fuel node next ] ]

  pub climb-meets_here : (fuel node from : ℕ) → from ≡ node → climb_meets parent fuel node from ≡ true
  unfolding climb_meets
  climb-meets_here zero node from is = eq-eqb from node is
  climb-meets_here (suc fuel) node from is = by_step fuel node from true (parent from) (eq-eqb from node is) refl

  -- without fuel left
  pub climb-ends : (fuel node from : ℕ) → fuel ≡ 0 → climb_meets parent fuel node from ≡ (from == node)
  unfolding climb_meets
  climb-ends fuel node from none = ap (λ left. climb_meets parent left node from) none

  pub climb-at_top : (fuel rest node from : ℕ) → fuel ≡ suc rest → (from ≡ node → ⊥) → parent from ≡ None → climb_meets parent fuel node from ≡ false
  climb-at_top fuel rest node from is other top = ap (λ left. climb_meets parent left node from) is ∙ by_step rest node from false None (ne_eqb from node other) top

  pub climb-goes_on : (fuel rest node from up : ℕ) → fuel ≡ suc rest → (from ≡ node → ⊥) → parent from ≡ Some up → climb_meets parent fuel node from ≡ climb_meets parent rest node up
  climb-goes_on fuel rest node from up is other leads = ap (λ left. climb_meets parent left node from) is ∙ by_step rest node from false (Some up) (ne_eqb from node other) leads

  begins_here : (fuel from : ℕ) → Contains (climbed_cells parent fuel from) (ParentOf from)
  unfolding climbed
  begins_here zero from = first_is_in (ParentOf from) []
  begins_here (suc fuel) from = first_is_in (ParentOf from) _

  pub climbed_here : (fuel from : ℕ) (all : List Cell) → IsPart (climbed_cells parent fuel from) all → IsPart (ParentOf from ∷ []) all
  climbed_here fuel from all part = one_is_part (ParentOf from) all (part (ParentOf from) (begins_here fuel from))

  by_parent : (rest from up : ℕ) → parent from ≡ Some up → climbed_cells parent (suc rest) from ≡ ParentOf from ∷ climbed_cells parent rest up
  unfolding climbed
  by_parent rest from up leads = ap (λ (o : Option ℕ). ParentOf from ∷ map ParentOf (elim o as (λ _. List ℕ) [ None ↦ [] | Some next ↦ climbed parent rest next ])) leads

  pub climbed_behind : (fuel rest from up : ℕ) → fuel ≡ suc rest → parent from ≡ Some up → IsPart (climbed_cells parent rest up) (climbed_cells parent fuel from)
  climbed_behind fuel rest from up is leads = subst (IsPart (climbed_cells parent rest up)) (sym (ap (λ left. climbed_cells parent left from) is ∙ by_parent rest from up leads)) (right_is_part (ParentOf from ∷ []) (climbed_cells parent rest up))
