-- A landing leaves each block of a file in a place of its own.
use Rattle.std.proofs.Common.{◌≡◌, ℕ, zero, suc, ◌+◌, ◌<◌, ◌==◌, ◌&&◌, ◌⊎◌, inl, inr, ⊎_elim, Bool, true, false, cond, not, List, [], ◌∷◌, filter, Some, None, refl, sym, ap, subst, ◌∙◌, arith, eqb-true, eq-eqb, ltb-true}
use Rattle.std.specs.Prelude.{zip}
use Rattle.std.specs.List.{list_any, list_all, AllByRecursion}
use Rattle.std.specs.declared.cmp.Ordering.{Ordering}
use Rattle.std.specs.declared.cmp.Ordering.TheVariants.{Less, Equal, Greater}
use Rattle.std.specs.Ordering.{is_eq}
use Rattle.std.proofs.lemmas.Bool.{or_cases, or_left, or_right, not-true}
use Rattle.kfs_model.specs.Table.{numbers, pairs, get, retain}
use Rattle.kfs_model.proofs.TableLaws.{get-insert, get-retain}
use Rattle.kfs_model.specs.Tree.{Tree, headers}
use Rattle.kfs_model.specs.Run.{Mark}
use Rattle.kfs_model.specs.Placement.{Place, Placement, IsBlock, IsPlacement, tier_size, in_first_tier, is_free, below, numbers_from, written_blocks}
use Rattle.kfs_model.specs.Judgement.{State, free_places}
use Rattle.kfs_model.specs.Distinct.{are_distinct}
use Rattle.kfs_model.specs.Machine.{are_chosen, stays, placed, placement_after}
use Rattle.kfs_model.proofs.CleanIsAllowed.{found, left, right}
use Rattle.kfs_model.proofs.Tables.{any_from_found}
use Rattle.kfs_model.proofs.WrittenBlocks.{begins_below, written_in_files}

-- ---- blocks and the places that they get

-- the block gets this place, among these
abbrev Gets : List (ℕ × ℕ) → List ℕ → ℕ × ℕ → ℕ → Type 0
Gets [] places block place = ⊥
Gets (b ∷ bs) [] block place = ⊥
Gets (b ∷ bs) (p ∷ ps) block place = ((block ≡ b) × (place ≡ p)) ⊎ Gets bs ps block place

gets_block : (P : ℕ × ℕ → Type 0) (blocks : List (ℕ × ℕ)) (places : List ℕ) (block : ℕ × ℕ) (place : ℕ) → AllByRecursion P blocks → Gets blocks places block place → P block
gets_block P [] places block place all gets = absurd gets
gets_block P (b ∷ bs) [] block place all gets = absurd gets
gets_block P (b ∷ bs) (p ∷ ps) block place all gets = ⊎_elim (λ here. subst P (sym here.0) all.0) (λ later. gets_block P bs ps block place all.1 later) gets

gets_place : (test : ℕ → Bool) (blocks : List (ℕ × ℕ)) (places : List ℕ) (block : ℕ × ℕ) (place : ℕ) → list_all test places ≡ true → Gets blocks places block place → test place ≡ true
gets_place test [] places block place all gets = absurd gets
gets_place test (b ∷ bs) [] block place all gets = absurd gets
gets_place test (b ∷ bs) (p ∷ ps) block place all gets =
    ⊎_elim (λ here. ap test here.1 ∙ left (test p) (list_all test ps) all) (λ later. gets_place test bs ps block place (right (test p) (list_all test ps) all) later) gets

gets_among : (blocks : List (ℕ × ℕ)) (places : List ℕ) (block : ℕ × ℕ) (place : ℕ) → Gets blocks places block place → list_any (λ other. other == place) places ≡ true
gets_among [] places block place gets = absurd gets
gets_among (b ∷ bs) [] block place gets = absurd gets
gets_among (b ∷ bs) (p ∷ ps) block place gets =
    ⊎_elim (λ here. or_left (p == place) _ (eq-eqb p place (sym here.1))) (λ later. or_right (p == place) _ (gets_among bs ps block place later)) gets

-- of distinct places each has one block
gets_apart : (blocks : List (ℕ × ℕ)) (places : List ℕ) (block other : ℕ × ℕ) (place : ℕ) → are_distinct places ≡ true → Gets blocks places block place → Gets blocks places other place → block ≡ other
gets_apart [] places block other place distinct gets also = absurd gets
gets_apart (b ∷ bs) [] block other place distinct gets also = absurd gets
gets_apart (b ∷ bs) (p ∷ ps) block other place distinct gets also =
    ⊎_elim
    (λ here. ⊎_elim (λ there. here.0 ∙ sym there.0) (λ later. absurd (taken here.1 (gets_among bs ps other place later))) also)
    (λ later. ⊎_elim (λ there. absurd (taken there.1 (gets_among bs ps block place later))) (λ too. gets_apart bs ps block other place (right (not (list_any (λ other. other == p) ps)) (are_distinct ps) distinct) later too) also)
    gets
  where
    taken : place ≡ p → list_any (λ other. other == place) ps ≡ true → ⊥
    taken same among =
        let none = not-true _ (left (not (list_any (λ other. other == p) ps)) (are_distinct ps) distinct) in
        let some = subst (λ q. list_any (λ other. other == q) ps ≡ true) same among in
        cc

-- what is found after blocks were placed: one of them at its place, or what was there
found_placed : (blocks : List (ℕ × ℕ)) (places : List ℕ) (base : Placement) (block : ℕ × ℕ) (place : Place) → get (placed (zip blocks places) base) block ≡ Some place
    → ((chosen : ℕ) × Gets blocks places block chosen × (place ≡ in_first_tier chosen)) ⊎ (get base block ≡ Some place)
found_placed [] places base block place is = inr is
found_placed (b ∷ bs) [] base block place is = inr is
found_placed (b ∷ bs) (p ∷ ps) base block place is =
    at ((pairs numbers numbers).compare block b) refl (found_placed bs ps base block place) (sym (get-insert (placed (zip bs ps) base) b (in_first_tier p) block) ∙ is)
  where
    at : (o : Ordering) → (pairs numbers numbers).compare block b ≡ o
        → (get (placed (zip bs ps) base) block ≡ Some place → ((chosen : ℕ) × Gets bs ps block chosen × (place ≡ in_first_tier chosen)) ⊎ (get base block ≡ Some place))
        → cond (is_eq o) (Some (in_first_tier p)) (get (placed (zip bs ps) base) block) ≡ Some place
        → ((chosen : ℕ) × Gets (b ∷ bs) (p ∷ ps) block chosen × (place ≡ in_first_tier chosen)) ⊎ (get base block ≡ Some place)
    at Less tie rest is = ⊎_elim (λ later. inl (later.0, inr later.1, later.2)) (λ before. inr before) (rest is)
    at Equal tie rest is = let same : place ≡ in_first_tier p = cc in inl (p, inl ((pairs numbers numbers).exact block b tie, refl), same)
    at Greater tie rest is = ⊎_elim (λ later. inl (later.0, inr later.1, later.2)) (λ before. inr before) (rest is)

-- ---- free places

any_filtered : (f : ℕ → Bool) (n : ℕ) (xs : List ℕ) → list_any (λ x. x == n) (filter f xs) ≡ true → (f n ≡ true) × (list_any (λ x. x == n) xs ≡ true)
any_filtered f n [] any = cc
any_filtered f n (x ∷ xs) any = at (f x) refl (any_filtered f n xs) any
  where
    later : (f n ≡ true) × (list_any (λ x. x == n) xs ≡ true) → (f n ≡ true) × (list_any (λ x. x == n) (x ∷ xs) ≡ true)
    later rest = (rest.0, or_right (x == n) (list_any (λ x. x == n) xs) rest.1)

    at : (b : Bool) → f x ≡ b → (list_any (λ x. x == n) (filter f xs) ≡ true → (f n ≡ true) × (list_any (λ x. x == n) xs ≡ true)) → list_any (λ x. x == n) (cond b (x ∷ filter f xs) (filter f xs)) ≡ true
        → (f n ≡ true) × (list_any (λ x. x == n) (x ∷ xs) ≡ true)
    at true passes rest any =
        ⊎_elim (λ same. (sym (ap f (eqb-true x n same)) ∙ passes, or_left (x == n) (list_any (λ x. x == n) xs) same)) (λ among. later (rest among)) (or_cases (x == n) (list_any (λ x. x == n) (filter f xs)) any)
    at false fails rest any = later (rest any)

any_numbered : (first count n : ℕ) → list_any (λ x. x == n) (numbers_from first count) ≡ true → n < first + count
any_numbered first zero n any = cc
any_numbered first (suc count) n any =
    ⊎_elim (λ same. let e = eqb-true first n same in omega arith) (λ among. let lower = any_numbered (first + 1) count n among in omega arith) (or_cases (first == n) (list_any (λ x. x == n) (numbers_from (first + 1) count)) any)

module _ (s : State) where
  abbrev is_among_free : ℕ → Bool
  is_among_free place = list_any (λ free. free == place) (free_places s)

  free_is : (place : ℕ) → is_among_free place ≡ true → (is_free s.placement (in_first_tier place) ≡ true) × (place < s.sizes.first)
  unfolding free_places
  free_is place any =
      let (free, among) = any_filtered (λ place. is_free s.placement (in_first_tier place)) place (below s.sizes.first) any in
      let lower = any_numbered 0 s.sizes.first place among in
      (free, omega arith)

  -- no block lies in a free place
  free_has_none : (place : ℕ) (block : ℕ × ℕ) → is_free s.placement (in_first_tier place) ≡ true → get s.placement block ≡ Some (in_first_tier place) → ⊥
  unfolding get
  free_has_none place block free there =
      let here = any_from_found (pairs numbers numbers) (λ (e : (ℕ × ℕ) × Place). (e.1.tier == 0) && (e.1.place == place)) s.placement.entries block (in_first_tier place) there (eq-eqb place place refl) in
      let none = not-true _ free in
      cc

-- ---- the placement after

module _ (s : State) (after : Tree ℕ) (marked_after : Tree Mark) (places : List ℕ)
    (old : IsPlacement s.sizes (get (headers s.tree)) s.placement)
    (chosen : are_chosen s (written_blocks marked_after) places ≡ true)
    (alike : headers marked_after ≡ headers after) where
  abbrev base : Placement
  base = retain (stays after marked_after) s.placement

  from_base : (block : ℕ × ℕ) (place : Place) → get base block ≡ Some place → (stays after marked_after block ≡ true) × (get s.placement block ≡ Some place)
  from_base block place is = by (stays after marked_after block) (sym (get-retain (stays after marked_after) s.placement block) ∙ is)
    where
      by : (b : Bool) → cond b (get s.placement block) None ≡ Some place → (b ≡ true) × (get s.placement block ≡ Some place)
      by true is = (refl, is)
      by false is = cc

  all_free : list_all (is_among_free s) places ≡ true
  all_free = right _ _ (left _ _ chosen)

  all_distinct : are_distinct places ≡ true
  all_distinct = right _ _ chosen

  abbrev blocks : List (ℕ × ℕ)
  blocks = written_blocks marked_after

  abbrev GetsOne : ℕ × ℕ → Place → Type 0
  GetsOne block place = (n : ℕ) × Gets blocks places block n × (place ≡ in_first_tier n)

  free_one : (block : ℕ × ℕ) (n : ℕ) → Gets blocks places block n → (is_free s.placement (in_first_tier n) ≡ true) × (n < s.sizes.first)
  free_one block n gets = free_is s n (gets_place (is_among_free s) blocks places block n all_free gets)

  -- a written block isn't where another one stays
  never_both : (block other : ℕ × ℕ) (place : Place) → GetsOne block place → get base other ≡ Some place → ⊥
  never_both block other place one is = free_has_none s one.0 other (free_one block one.0 one.1).0 ((from_base other place is).1 ∙ ap Some one.2)

  apart_after : (block other : ℕ × ℕ) (place : Place) → get (placement_after s after marked_after places) block ≡ Some place → get (placement_after s after marked_after places) other ≡ Some place → block ≡ other
  apart_after block other place is also =
      ⊎_elim
      (λ one. ⊎_elim
      (λ two.
      let same : one.0 ≡ two.0 = ap (λ (p : Place). p.place) (sym one.2 ∙ two.2) in
      gets_apart blocks places block other two.0 all_distinct (subst (Gets blocks places block) same one.1) two.1)
      (λ stays. absurd (never_both block other place one stays))
      (found_placed blocks places base other place also))
      (λ stays. ⊎_elim
      (λ one. absurd (never_both other block place one stays))
      (λ too. old.laid.apart block other place (from_base block place stays).1 (from_base other place too).1)
      (found_placed blocks places base other place also))
      (found_placed blocks places base block place is)

  in_tier_after : (block : ℕ × ℕ) (place : Place) → get (placement_after s after marked_after places) block ≡ Some place → place.place < tier_size s.sizes place.tier
  in_tier_after block place is =
      ⊎_elim
      (λ one. subst (λ (p : Place). p.place < tier_size s.sizes p.tier) (sym one.2) (free_one block one.0 one.1).1)
      (λ stays. old.laid.in_tier block place (from_base block place stays).1)
      (found_placed blocks places base block place is)

  stays_in_file : (number block : ℕ) → stays after marked_after (number, block) ≡ true → IsBlock (get (headers after)) number block
  stays_in_file number block stay =
      let (h, shown, passes) = found (get (headers after) number) _ (left _ _ stay) in
      record { header = h; shown = shown; file = left _ _ passes; begins = begins_below block h.size (ltb-true _ _ (right _ _ passes)) }

  of_files_after : (number block : ℕ) (place : Place) → get (placement_after s after marked_after places) (number, block) ≡ Some place → IsBlock (get (headers after)) number block
  of_files_after number block place is =
      ⊎_elim
      (λ one. subst (λ heads. IsBlock (get heads) number block) alike (gets_block (λ b. IsBlock (get (headers marked_after)) b.0 b.1) blocks places (number, block) one.0 (written_in_files marked_after) one.1))
      (λ stay. stays_in_file number block (from_base (number, block) place stay).0)
      (found_placed blocks places base (number, block) place is)

  pub placement_kept : IsPlacement s.sizes (get (headers after)) (placement_after s after marked_after places)
  placement_kept = record { laid = record { apart = apart_after; in_tier = in_tier_after }; of_files = of_files_after }
