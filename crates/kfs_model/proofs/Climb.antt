-- A climb from a directory of a sound tree: it passes no node twice, so it is no longer than there are numbers.
use Rattle.std.proofs.Common.{◌≡◌, ℕ, zero, suc, ◌<◌, ◌≤◌, Bool, true, false, ◌==◌, eqb, List, [], ◌∷◌, length, Option, Some, None, refl, sym, ap, subst, ◌∙◌, ⊎_elim, arith, eqb-true}
use Rattle.std.specs.List.{list_any, AllByRecursion, IsDistinct}
use Rattle.std.proofs.lemmas.Bool.{or_cases, or_parts, false_from_ne_true, false≢true}
use Rattle.std.proofs.lemmas.Map.Steps.{length-le_from_distinct_below}
use Rattle.kfs_model.specs.Header.{Header}
use Rattle.kfs_model.specs.Tree.{NameTable}
use Rattle.kfs_model.specs.Sight.{is_directory, parent_in, climb_meets}
use Rattle.kfs_model.specs.Soundness.{Climbs, AreSound}
use Rattle.kfs_model.proofs.Heads.{root_has_none, has_parent}

module _ (parent : ℕ → Option ℕ) (root_end : parent 1 ≡ None) where
  -- two climbs to the root are as long
  as_long : (steps others from : ℕ) → Climbs parent steps from 1 → Climbs parent others from 1 → steps ≡ others
  as_long zero zero from climb other = refl
  as_long zero (suc others) from climb other = let none : parent from ≡ None = ap parent climb ∙ root_end in cc (other.1, none)
  as_long (suc steps) zero from climb other = let none : parent from ≡ None = ap parent other ∙ root_end in cc (climb.1, none)
  as_long (suc steps) (suc others) from climb other =
      let same : climb.0 ≡ other.0 = cc (climb.1, other.1) in
      ap suc (as_long steps others climb.0 climb.2 (subst (λ up. Climbs parent others up 1) (sym same) other.2))

  -- the nodes that a climb passes
  pub passed : (steps from : ℕ) → Climbs parent steps from 1 → List ℕ
  passed zero from climb = from ∷ []
  passed (suc steps) from climb = from ∷ passed steps climb.0 climb.2

  pub passed_long : (steps from : ℕ) (climb : Climbs parent steps from 1) → length (passed steps from climb) ≡ suc steps
  unfolding passed
  passed_long zero from climb = refl
  passed_long (suc steps) from climb = ap suc (passed_long steps climb.0 climb.2)

  -- from a node that is passed the climb goes on, and is no longer
  pub climb_from : (steps from : ℕ) (climb : Climbs parent steps from 1) (k : ℕ) → list_any (eqb k) (passed steps from climb) ≡ true → (fewer : ℕ) × (fewer ≤ steps) × Climbs parent fewer k 1
  unfolding passed
  climb_from zero from climb k any = (0, omega arith, ⊎_elim (λ same. eqb-true k from same ∙ climb) (λ (none : false ≡ true). cc) (or_cases (k == from) false any))
  climb_from (suc steps) from climb k any =
      ⊎_elim (λ same. (suc steps, omega arith, subst (λ k. Climbs parent (suc steps) k 1) (sym (eqb-true k from same)) climb))
      (λ later. let (fewer, fits, rest) = climb_from steps climb.0 climb.2 k later in (fewer, omega arith, rest))
      (or_cases (k == from) (list_any (eqb k) (passed steps climb.0 climb.2)) any)

  all_other : (k : ℕ) (xs : List ℕ) → list_any (eqb k) xs ≡ false → AllByRecursion (λ x. eqb k x ≡ false) xs
  all_other k [] none = tt
  all_other k (x ∷ xs) none = let parts = or_parts (k == x) (list_any (eqb k) xs) none in (parts.0, all_other k xs parts.1)

  -- no node is passed twice
  pub passed_once : (steps from : ℕ) (climb : Climbs parent steps from 1) → IsDistinct eqb (passed steps from climb)
  unfolding passed IsDistinct
  passed_once zero from climb = (tt, tt)
  passed_once (suc steps) from climb = (
    all_other from (passed steps climb.0 climb.2) (false_from_ne_true _ (λ again.
        let (fewer, fits, rest) = climb_from steps climb.0 climb.2 from again in
        let same = as_long (suc steps) fewer from climb rest in
        absurd (omega arith))),
    passed_once steps climb.0 climb.2,
  )

-- ---- how long a climb is

module _ (head : ℕ → Option Header) (names : NameTable) (sound : AreSound head names) where
  passed_in_range : (steps k : ℕ) → Climbs (parent_in head names) steps k 1 → k < 65537
  passed_in_range zero k climb = omega arith
  passed_in_range (suc steps) k climb = at (head k) refl
    where
      at : (o : Option Header) → head k ≡ o → k < 65537
      at None is = absurd (false≢true (sym (ap is_directory is) ∙ (has_parent head names k climb.0 climb.1).0))
      at (Some h) is = let range = (sound.ranges k h is).greatest in omega arith

  pub short_climb : (steps from : ℕ) → Climbs (parent_in head names) steps from 1 → steps ≤ 65536
  short_climb steps from climb =
      let parent = parent_in head names in
      let root = root_has_none head names in
      let short = length-le_from_distinct_below (passed parent root steps from climb) 65537 (passed_once parent root steps from climb)
      (λ k any. let (fewer, fits, rest) = climb_from parent root steps from climb k any in passed_in_range fewer k rest) in
      omega (arith, passed_long parent root steps from climb)

-- a climb that doesn't meet a node goes on where that node alone gets another parent
pub climb_apart : (parent after : ℕ → Option ℕ) (n : ℕ) → ((k up : ℕ) → (k == n) ≡ false → parent k ≡ Some up → after k ≡ Some up)
    → (fuel steps from : ℕ) → steps ≤ fuel → climb_meets parent fuel n from ≡ false → Climbs parent steps from 1 → Climbs after steps from 1
unfolding climb_meets
climb_apart parent after n each fuel zero from fits apart climb = climb
climb_apart parent after n each zero (suc steps) from fits apart climb = absurd (omega arith)
climb_apart parent after n each (suc fuel) (suc steps) from fits apart climb =
    let (other, rest) = parts (from == n) (parent from) climb.1 apart in
    (climb.0, each from climb.0 other climb.1, climb_apart parent after n each fuel steps climb.0 (omega arith) rest climb.2)
  where
    parts : (b : Bool) (o : Option ℕ) → o ≡ Some climb.0 → ◌≡◌ {A = Bool} (elim b [ true ↦ true | false ↦ elim o [ None ↦ false | Some up ↦ climb_meets parent fuel n up ] ]) false → (b ≡ false) × (climb_meets parent fuel n climb.0 ≡ false)
    parts true o is apart = cc
    parts false None is apart = cc
    parts false (Some up) is apart = let same : up ≡ climb.0 = cc in (refl, subst (λ up. climb_meets parent fuel n up ≡ false) same apart)
