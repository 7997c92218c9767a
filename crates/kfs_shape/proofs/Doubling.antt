-- Lists of where numbers lead, in more and more steps up.
use Rattle.std.proofs.Common.{◌≡◌, ◌≢◌, ℕ, zero, suc, ◌+◌, ◌-◌, ◌<◌, ◌≤◌, ◌==◌, Bool, true, false, cond, List, [], ◌∷◌, length, get_or, map, slice_get, Option, Some, None, option_map, refl, sym, ap, subst, ◌∙◌, arith, nat_le, leb-true, leb-false, eq-eqb, eqb-true}
use Rattle.std.proofs.lemmas.Bool.{ne_eqb}
use Rattle.std.proofs.lemmas.Option.{slice_get-map}
use Rattle.std.proofs.lemmas.Map.Steps.{length-le_from_distinct_below}
use Rattle.kfs_model.specs.Soundness.{Climbs}
use Rattle.kfs_model.proofs.Climb.{passed, passed_long, climb_from, passed_once}
use Rattle.kfs_shape.specs.Climbs.{ancestor_at, ancestor_from, is_root, not_elsewhere, EndAtRoot}

-- ---- a list that leads on

pub up_map : (ancestors others : List (Option ℕ)) (n : ℕ) → ancestor_at (map (ancestor_from ancestors) others) n ≡ ancestor_from ancestors (ancestor_at others n)
up_map ancestors others n = ap (λ o. elim o [ None ↦ None | Some up ↦ up ]) (slice_get-map (ancestor_from ancestors) others n) ∙ at (slice_get others n)
  where
    at : (o : Option (Option ℕ)) → elim (option_map (ancestor_from ancestors) o) [ None ↦ None | Some up ↦ up ] ≡ ancestor_from ancestors (elim o [ None ↦ None | Some up ↦ up ])
    at None = refl
    at (Some up) = refl

-- each element of the list leads nowhere, or to the root
pub ends_each : (ancestors : List (Option ℕ)) → ((k : ℕ) → k < length ancestors → not_elsewhere (get_or ancestors k None) ≡ true) → EndAtRoot ancestors
ends_each [] each n = refl
ends_each (up ∷ ups) each zero = each 0 (omega arith)
ends_each (up ∷ ups) each (suc n) = ends_each ups (λ k within. each (suc k) (omega (arith, within))) n

-- what holds below a number, and of it, holds up to it
pub one_further : (P : ℕ → Type 0) (i : ℕ) → ((k : ℕ) → k < i → P k) → P i → (k : ℕ) → k < i + 1 → P k
one_further P i below here k within = at (nat_le i k) refl
  where
    at : (b : Bool) → nat_le i k ≡ b → P k
    at true reached = let same : i ≡ k = omega (arith, leb-true i k reached, within) in subst P same here
    at false short = below k (leb-false i k short)

module _ (parent : ℕ → Option ℕ) (root_end : parent 1 ≡ None) where
  -- the list leads up, and as far as so many steps on each climb to the root
  pub record LeadsBy (power : ℕ) (ancestors : List (Option ℕ)) : Type 0 where
    pub sound : (n m : ℕ) → ancestor_at ancestors n ≡ Some m → (steps : ℕ) × Climbs parent steps n m
    pub far : (n steps : ℕ) → Climbs parent steps n 1 → (m : ℕ) × (ancestor_at ancestors n ≡ Some m) × Climbs parent (steps - power) m 1

  -- ---- one step

  pub leads_by_one : (ancestors : List (Option ℕ)) → ((n : ℕ) → ancestor_at ancestors n ≡ cond (n == 1) (Some 1) (parent n)) → LeadsBy 1 ancestors
  leads_by_one ancestors are = record { sound = λ n m is. up (n == 1) n m refl (sym (are n) ∙ is); far = far }
    where
      up : (root : Bool) (n m : ℕ) → (n == 1) ≡ root → cond root (Some 1) (parent n) ≡ Some m → (steps : ℕ) × Climbs parent steps n m
      up true n m root is = let here : 1 ≡ m = cc in (0, eqb-true n 1 root ∙ here)
      up false n m root is = (1, (m, is, refl))

      far : (n steps : ℕ) → Climbs parent steps n 1 → (m : ℕ) × (ancestor_at ancestors n ≡ Some m) × Climbs parent (steps - 1) m 1
      far n zero climb = (1, are n ∙ ap (λ b. cond b (Some 1) (parent n)) (eq-eqb n 1 climb), refl)
      far n (suc steps) climb =
          let other : n ≢ 1 = λ same. let none : parent n ≡ None = ap parent same ∙ root_end in cc (climb.1, none) in
          let rest : steps ≡ suc steps - 1 = omega arith in
          (climb.0, are n ∙ ap (λ b. cond b (Some 1) (parent n)) (ne_eqb n 1 other) ∙ climb.1, subst (λ s. Climbs parent s climb.0 1) rest climb.2)

  -- ---- twice as many

  joined : (steps n k m : ℕ) → Climbs parent steps n k → (others : ℕ) → Climbs parent others k m → (all : ℕ) × Climbs parent all n m
  joined zero n k m climb others rest = (others, subst (λ from. Climbs parent others from m) (sym climb) rest)
  joined (suc steps) n k m climb others rest = let (all, whole) = joined steps climb.0 k m climb.2 others rest in (suc all, (climb.0, climb.1, whole))

  pub leads_by_twice : (power : ℕ) (ancestors twice : List (Option ℕ)) → ((n : ℕ) → ancestor_at twice n ≡ ancestor_from ancestors (ancestor_at ancestors n)) → LeadsBy power ancestors → LeadsBy (power + power) twice
  leads_by_twice power ancestors twice are leads = record {
    sound = λ n m is. up n m (ancestor_at ancestors n) refl (sym (are n) ∙ is);
    far = λ n steps climb.
        let (k, first, rest) = leads.far n steps climb in
        let (m, second, last) = leads.far k (steps - power) rest in
        let left : steps - power - power ≡ steps - (power + power) = omega arith in
        (m, are n ∙ ap (ancestor_from ancestors) first ∙ second, subst (λ s. Climbs parent s m 1) left last);
  }
    where
      up : (n m : ℕ) (o : Option ℕ) → ancestor_at ancestors n ≡ o → ancestor_from ancestors o ≡ Some m → (steps : ℕ) × Climbs parent steps n m
      up n m None first is = cc
      up n m (Some k) first is =
          let (steps, climb) = leads.sound n k first in
          let (others, rest) = leads.sound k m is in
          joined steps n k m climb others rest

  -- ---- the root

  from_the_root : (power : ℕ) (ancestors : List (Option ℕ)) → LeadsBy power ancestors → (n : ℕ) → is_root (ancestor_at ancestors n) ≡ true → (steps : ℕ) × Climbs parent steps n 1
  from_the_root power ancestors leads n root = at (ancestor_at ancestors n) refl root
    where
      at : (o : Option ℕ) → ancestor_at ancestors n ≡ o → is_root o ≡ true → (steps : ℕ) × Climbs parent steps n 1
      at None is root = cc
      at (Some m) is root = leads.sound n 1 (is ∙ ap Some (eqb-true m 1 root))

  tells : (power : ℕ) (ancestors : List (Option ℕ)) → LeadsBy power ancestors → (n : ℕ) (reaches : Bool) → ((steps : ℕ) → Climbs parent steps n 1 → is_root (ancestor_at ancestors n) ≡ true)
      → (reaches ≡ true → (steps : ℕ) × Climbs parent steps n 1)
      → ((steps : ℕ) → Climbs parent steps n 1 → reaches ≡ true) → is_root (ancestor_at ancestors n) ≡ reaches
  tells power ancestors leads n reaches led found only =
      same (is_root (ancestor_at ancestors n)) reaches
      (λ root. let (steps, climb) = from_the_root power ancestors leads n root in only steps climb)
      (λ reached. let (steps, climb) = found reached in led steps climb)
    where
      same : (a b : Bool) → (a ≡ true → b ≡ true) → (b ≡ true → a ≡ true) → a ≡ b
      same true b there back = sym (there refl)
      same false true there back = back refl
      same false false there back = refl

  -- the test of a climb, by a list that leads nowhere but to the root
  pub end_tells : (power : ℕ) (ancestors : List (Option ℕ)) → EndAtRoot ancestors → LeadsBy power ancestors → (n : ℕ) (reaches : Bool) → (reaches ≡ true → (steps : ℕ) × Climbs parent steps n 1)
      → ((steps : ℕ) → Climbs parent steps n 1 → reaches ≡ true) → is_root (ancestor_at ancestors n) ≡ reaches
  end_tells power ancestors ends leads n reaches found only = tells power ancestors leads n reaches led found only
    where
      led : (steps : ℕ) → Climbs parent steps n 1 → is_root (ancestor_at ancestors n) ≡ true
      led steps climb =
          let (m, is, rest) = leads.far n steps climb in
          ap is_root is ∙ sym (ap not_elsewhere is) ∙ ends n

  -- ---- as many as a climb can have

  module _ (in_range : (k up : ℕ) → parent k ≡ Some up → k < 65537) where
    passed_in_range : (steps k : ℕ) → Climbs parent steps k 1 → k < 65537
    passed_in_range zero k climb = omega arith
    passed_in_range (suc steps) k climb = in_range k climb.0 climb.1

    short_climb : (steps from : ℕ) → Climbs parent steps from 1 → steps ≤ 65536
    short_climb steps from climb =
        let short = length-le_from_distinct_below (passed parent root_end steps from climb) 65537 (passed_once parent root_end steps from climb)
        (λ k any. let (fewer, fits, rest) = climb_from parent root_end steps from climb k any in passed_in_range fewer k rest) in
        omega (arith, passed_long parent root_end steps from climb)

    to_the_root : (power : ℕ) (ancestors : List (Option ℕ)) → 65536 ≤ power → LeadsBy power ancestors → (n steps : ℕ) → Climbs parent steps n 1 → is_root (ancestor_at ancestors n) ≡ true
    to_the_root power ancestors enough leads n steps climb =
        let (m, is, rest) = leads.far n steps climb in
        let few = short_climb steps n climb in
        let none : steps - power ≡ 0 = omega arith in
        let here : m ≡ 1 = subst (λ s. Climbs parent s m 1) none rest in
        ap is_root is ∙ eq-eqb m 1 here

    -- the test of a climb, by such a list
    pub root_tells : (power : ℕ) (ancestors : List (Option ℕ)) → 65536 ≤ power → LeadsBy power ancestors → (n : ℕ) (reaches : Bool) → (reaches ≡ true → (steps : ℕ) × Climbs parent steps n 1)
        → ((steps : ℕ) → Climbs parent steps n 1 → reaches ≡ true) → is_root (ancestor_at ancestors n) ≡ reaches
    root_tells power ancestors enough leads n reaches found only = tells power ancestors leads n reaches (λ steps climb. to_the_root power ancestors enough leads n steps climb) found only
