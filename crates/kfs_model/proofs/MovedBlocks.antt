-- Moves without a fault leave each block in a place of its own.
use Rattle.std.proofs.Common.{◌≡◌, ℕ, ◌+◌, ◌<◌, ◌==◌, ◌&&◌, ◌||◌, ◌⊎◌, inl, inr, ⊎_elim, Bool, true, false, cond, not, List, [], ◌∷◌, ◌++◌, length, Option, Some, None, refl, sym, ap, subst, ◌∙◌, arith, eqb-true, eq-eqb, ltb-true, option_map}
use Rattle.std.specs.Prelude.{find, is_none, nat_lt}
use Rattle.std.specs.List.{list_any}
use Rattle.std.specs.declared.cmp.Ordering.{Ordering}
use Rattle.std.specs.declared.cmp.Ordering.TheVariants.{Less, Equal, Greater}
use Rattle.std.specs.Ordering.{is_eq}
use Rattle.std.proofs.lemmas.Bool.{and_parts, both_ways, cases_Bool, or_cases, or_left, or_right, not-true}
use Rattle.std.specs.Option.{option_or}
use Rattle.std.proofs.lemmas.List.Folds.{find-append}
use Rattle.std.specs.Cmp.{tied_itself}
use Rattle.kfs_model.specs.Table.{numbers, pairs, get, changed}
use Rattle.kfs_model.specs.Placement.{TierSizes, Place, Placement, IsBlock, IsLaid, IsPlacement, tier_size, is_free}
use Rattle.kfs_model.specs.Header.{Header}
use Rattle.kfs_model.specs.FirstAnswer.{first_answer}
use Rattle.kfs_model.specs.Migration.{Move, MoveFault, NotMapped, OutOfRange, NotFree, Overlap, TooManyMoves, move_limit, source, has_source, has_target, moves_overlap, fault_of_move, fault_of_moves, place_after, moved_by}
use Rattle.kfs_model.proofs.FirstAnswer.{each_from_none}
use Rattle.kfs_model.proofs.TableLaws.{same_table, get-changed, get-mapped}
use Rattle.kfs_model.proofs.Tables.{any_from_found}

-- ---- sources and targets

pub has_source-is : (block : ℕ × ℕ) (m : Move) → has_source block m ≡ true → source m ≡ block
has_source-is block m has =
    let (numbers, blocks) = and_parts (m.number == block.0) (m.block == block.1) has in
    let number = eqb-true m.number block.0 numbers in
    let at = eqb-true m.block block.1 blocks in
    λ i. (number i, at i)

pub has_source-same : (block : ℕ × ℕ) (m : Move) → source m ≡ block → has_source block m ≡ true
has_source-same block m same = ap (λ b. b && (m.block == block.1)) (eq-eqb m.number block.0 (ap (λ (b : ℕ × ℕ). b.0) same)) ∙ eq-eqb m.block block.1 (ap (λ (b : ℕ × ℕ). b.1) same)

pub has_target-is : (place : Place) (m : Move) → has_target place m ≡ true → m.target ≡ place
has_target-is place m has =
    let (tiers, places) = and_parts (m.target.tier == place.tier) (m.target.place == place.place) has in
    let tier = eqb-true m.target.tier place.tier tiers in
    let number = eqb-true m.target.place place.place places in
    λ i. record { tier = tier i; place = number i }

pub has_target-same : (place : Place) (m : Move) → m.target ≡ place → has_target place m ≡ true
has_target-same place m same = ap (λ b. b && (m.target.place == place.place)) (eq-eqb m.target.tier place.tier (ap (λ (p : Place). p.tier) same)) ∙ eq-eqb m.target.place place.place (ap (λ (p : Place). p.place) same)

-- no block lies at a free place
pub free_has_none : (placement : Placement) (place : Place) (block : ℕ × ℕ) → is_free placement place ≡ true → get placement block ≡ Some place → ⊥
unfolding get
free_has_none placement place block free there =
    let here = any_from_found (pairs numbers numbers) (λ (e : (ℕ × ℕ) × Place). (e.1.tier == place.tier) && (e.1.place == place.place)) placement.entries block place there (same place) in
    let none = not-true _ free in
    cc
  where
    same : (p : Place) → (p.tier == p.tier) && (p.place == p.place) ≡ true
    same p = ap (λ b. b && (p.place == p.place)) (eq-eqb p.tier p.tier refl) ∙ eq-eqb p.place p.place refl

-- ---- moves without a fault

-- the move can be made together with the earlier ones
pub record CanBeMade (sizes : TierSizes) (placement : Placement) (earlier : List Move) (m : Move) : Type 0 where
  pub place : Place
  pub lies : get placement (source m) ≡ Some place
  pub inside : m.target.place < tier_size sizes m.target.tier
  pub free : is_free placement m.target ≡ true
  pub alone : list_any (λ other. moves_overlap other m) earlier ≡ false

abbrev pub by_tests : (lost inside free overlaps : Bool) → ℕ → Option MoveFault
by_tests lost inside free overlaps n = cond lost (Some (NotMapped n)) (cond (not inside) (Some (OutOfRange n)) (cond (not free) (Some (NotFree n)) (cond overlaps (Some (Overlap n)) None)))

pub tests_pass : (lost inside free overlaps : Bool) (n : ℕ) → by_tests lost inside free overlaps n ≡ None → (lost ≡ false) × (inside ≡ true) × (free ≡ true) × (overlaps ≡ false)
tests_pass true inside free overlaps n none = cc
tests_pass false false free overlaps n none = cc
tests_pass false true false overlaps n none = cc
tests_pass false true true true n none = cc
tests_pass false true true false n none = (refl, refl, refl, refl)

there : {X : Type 0} (o : Option X) → is_none o ≡ false → (x : X) × (o ≡ Some x)
there None some = cc
there (Some x) some = (x, refl)

module _ (sizes : TierSizes) (placement : Placement) where
  pub can_follow : (earlier : List Move) (m : Move) → fault_of_move sizes placement earlier m ≡ None → CanBeMade sizes placement earlier m
  can_follow earlier m none =
      let (found, inside, free, alone) = tests_pass (is_none (get placement (source m))) (nat_lt m.target.place (tier_size sizes m.target.tier)) (is_free placement m.target) (list_any (λ other. moves_overlap other m) earlier) (length earlier) none in
      let (place, lies) = there (get placement (source m)) found in
      record { place = place; lies = lies; inside = ltb-true _ _ inside; free = free; alone = alone }

  none_first : (many : Bool) (first : Option MoveFault) → cond many (Some TooManyMoves) first ≡ None → first ≡ None
  none_first true first none = cc
  none_first false first none = none

  -- so of each of them, behind those before it
  pub each_follows : (moves : List Move) → fault_of_moves sizes placement moves ≡ None → (before : List Move) (m : Move) (rest : List Move) → moves ≡ before ++ m ∷ rest → CanBeMade sizes placement before m
  each_follows moves none before m rest is =
      can_follow before m (each_from_none (fault_of_move sizes placement) moves (none_first (nat_lt move_limit (length moves)) (first_answer (fault_of_move sizes placement) moves) none) before m rest is)

-- ---- moves among others

abbrev pub IsAmong : Move → List Move → Type 0
IsAmong m [] = ⊥
IsAmong m (x ∷ xs) = (m ≡ x) ⊎ IsAmong m xs

pub split_at : (m : Move) (moves : List Move) → IsAmong m moves → (before : List Move) × (rest : List Move) × (moves ≡ before ++ m ∷ rest)
split_at m [] among = absurd among
split_at m (x ∷ xs) among =
    ⊎_elim
    (λ here. ([], xs, ap (λ y. y ∷ xs) (sym here)))
    (λ later. let (before, rest, is) = split_at m xs later in (x ∷ before, rest, ap (λ ys. x ∷ ys) is))
    among

pub found_among : (test : Move → Bool) (moves : List Move) (m : Move) → find test moves ≡ Some m → IsAmong m moves × (test m ≡ true)
found_among test [] m found = cc
found_among test (x ∷ xs) m found = at (test x) refl (found_among test xs m) found
  where
    at : (b : Bool) → test x ≡ b → (find test xs ≡ Some m → IsAmong m xs × (test m ≡ true)) → cond b (Some x) (find test xs) ≡ Some m → IsAmong m (x ∷ xs) × (test m ≡ true)
    at true passes rest is = let same : x ≡ m = cc in (inl (sym same), ap test (sym same) ∙ passes)
    at false fails rest is = let (later, passes) = rest is in (inr later, passes)

-- no move overlaps an earlier one
abbrev AreApart : List Move → Type 0
AreApart moves = (before : List Move) (m : Move) (rest : List Move) → moves ≡ before ++ m ∷ rest → list_any (λ other. moves_overlap other m) before ≡ false

or_false : (a b : Bool) → (a || b) ≡ false → (a ≡ false) × (b ≡ false)
or_false true b none = cc
or_false false b none = (refl, none)

apart_tail : (x : Move) (xs : List Move) → AreApart (x ∷ xs) → AreApart xs
apart_tail x xs apart before m rest is = (or_false (moves_overlap x m) (list_any (λ other. moves_overlap other m) before) (apart (x ∷ before) m rest (ap (λ ys. x ∷ ys) is))).1

apart_head : (x : Move) (xs : List Move) → AreApart (x ∷ xs) → (m : Move) → IsAmong m xs → moves_overlap x m ≡ false
apart_head x xs apart m among =
    let (before, rest, is) = split_at m xs among in
    (or_false (moves_overlap x m) (list_any (λ other. moves_overlap other m) before) (apart (x ∷ before) m rest (ap (λ ys. x ∷ ys) is))).0

-- two moves to one place are one move
same_target : (moves : List Move) → AreApart moves → (m other : Move) → IsAmong m moves → IsAmong other moves → m.target ≡ other.target → m ≡ other
same_target [] apart m other among also same = absurd among
same_target (x ∷ xs) apart m other among also same =
    ⊎_elim
    (λ here. ⊎_elim (λ too. here ∙ sym too) (λ later. absurd (clash other later (ap (λ (y : Move). y.target) (sym here) ∙ same))) also)
    (λ later. ⊎_elim (λ here. absurd (clash m later (ap (λ (y : Move). y.target) (sym here) ∙ sym same))) (λ too. same_target xs (apart_tail x xs apart) m other later too same) also)
    among
  where
    clash : (y : Move) → IsAmong y xs → x.target ≡ y.target → ⊥
    clash y later one = both_ways (moves_overlap x y) (apart_head x xs apart y later) (or_right (has_source (source y) x) (has_target y.target x) (has_target-same y.target x one))

-- ---- the placement after

-- the block lies where it lay, or at the target of a move of it
pub lies_after : (moves : List Move) (placement : Placement) (block : ℕ × ℕ) (place : Place) → get (moved_by moves placement) block ≡ Some place
    → (get placement block ≡ Some place) ⊎ ((m : Move) × IsAmong m moves × (source m ≡ block) × (m.target ≡ place))
unfolding moved_by
lies_after moves placement block place is = at (get placement block) refl (sym (get-mapped (place_after moves) placement block) ∙ is)
  where
    by : (old : Place) → get placement block ≡ Some old → (o : Option Move) → find (has_source block) moves ≡ o → ◌≡◌ {A = Place} (elim o [ None ↦ old | Some m ↦ m.target ]) place
        → (get placement block ≡ Some place) ⊎ ((m : Move) × IsAmong m moves × (source m ≡ block) × (m.target ≡ place))
    by old was None found there = inl (was ∙ ap Some there)
    by old was (Some m) found there = let (among, has) = found_among (has_source block) moves m found in inr (m, among, has_source-is block m has, there)

    at : (o : Option Place) → get placement block ≡ o → option_map (place_after moves block) o ≡ Some place
        → (get placement block ≡ Some place) ⊎ ((m : Move) × IsAmong m moves × (source m ≡ block) × (m.target ≡ place))
    at None was is' = cc
    at (Some old) was is' = let there : place_after moves block old ≡ place = cc in by old was (find (has_source block) moves) refl there

-- a block lies somewhere exactly where it lay somewhere
pub lay_before : (moves : List Move) (placement : Placement) (block : ℕ × ℕ) (place : Place) → get (moved_by moves placement) block ≡ Some place → (old : Place) × (get placement block ≡ Some old)
unfolding moved_by
lay_before moves placement block place is = at (get placement block) refl (sym (get-mapped (place_after moves) placement block) ∙ is)
  where
    at : (o : Option Place) → get placement block ≡ o → option_map (place_after moves block) o ≡ Some place → (old : Place) × (get placement block ≡ Some old)
    at None was is' = cc
    at (Some old) was is' = (old, was)

module _ (sizes : TierSizes) (placement : Placement) (moves : List Move) (none : fault_of_moves sizes placement moves ≡ None) where
  pub among_follows : (m : Move) → IsAmong m moves → (before : List Move) × CanBeMade sizes placement before m
  among_follows m among = let (before, rest, is) = split_at m moves among in (before, each_follows sizes placement moves none before m rest is)

  apart : AreApart moves
  apart before m rest is = (each_follows sizes placement moves none before m rest is).alone

  module _ (laid : IsLaid sizes placement) where
    apart_after : (block other : ℕ × ℕ) (place : Place) → get (moved_by moves placement) block ≡ Some place → get (moved_by moves placement) other ≡ Some place → block ≡ other
    apart_after block other place is also =
        ⊎_elim
        (λ stays. ⊎_elim (λ too. laid.apart block other place stays too) (λ goes. absurd (taken block place stays goes.0 goes.1 goes.3)) (lies_after moves placement other place also))
        (λ goes. ⊎_elim
        (λ stays. absurd (taken other place stays goes.0 goes.1 goes.3))
        (λ too. let same = same_target moves apart goes.0 too.0 goes.1 too.1 (goes.3 ∙ sym too.3) in sym goes.2 ∙ ap source same ∙ too.2)
        (lies_after moves placement other place also))
        (lies_after moves placement block place is)
      where
        taken : (found : ℕ × ℕ) (place : Place) → get placement found ≡ Some place → (m : Move) → IsAmong m moves → m.target ≡ place → ⊥
        taken found place there m among same = free_has_none placement m.target found ((among_follows m among).1.free) (there ∙ ap Some (sym same))

    in_tier_after : (block : ℕ × ℕ) (place : Place) → get (moved_by moves placement) block ≡ Some place → place.place < tier_size sizes place.tier
    in_tier_after block place is =
        ⊎_elim
        (λ stays. laid.in_tier block place stays)
        (λ goes. subst (λ (p : Place). p.place < tier_size sizes p.tier) goes.3 ((among_follows goes.0 goes.1).1.inside))
        (lies_after moves placement block place is)

    pub laid_after : IsLaid sizes (moved_by moves placement)
    laid_after = record { apart = apart_after; in_tier = in_tier_after }

  pub placed_after : (head : ℕ → Option Header) → IsPlacement sizes head placement → IsPlacement sizes head (moved_by moves placement)
  placed_after head placed = record {
    laid = laid_after placed.laid;
    of_files = λ number block place is. let (old, was) = lay_before moves placement (number, block) place is in placed.of_files number block old was;
  }

-- ---- one move more

is_tied : (block : ℕ × ℕ) → (pairs numbers numbers).compare block block ≡ Equal
is_tied block = tied_itself (pairs numbers numbers).total block

module _ (before : List Move) (m : Move) where
  moves_last : find (has_source (source m)) before ≡ None → find (has_source (source m)) (before ++ m ∷ []) ≡ Some m
  moves_last none =
      find-append (has_source (source m)) before (m ∷ [])
      ∙ ap (λ o. option_or o (find (has_source (source m)) (m ∷ []))) none
      ∙ ap (λ b. cond b (Some m) None) (has_source-same (source m) m refl)

  moves_others : (block : ℕ × ℕ) → has_source block m ≡ false → find (has_source block) (before ++ m ∷ []) ≡ find (has_source block) before
  moves_others block other =
      find-append (has_source block) before (m ∷ [])
      ∙ ap (λ b. option_or (find (has_source block) before) (cond b (Some m) None)) other
      ∙ either (find (has_source block) before)
    where
      either : (o : Option Move) → option_or o None ≡ o
      either None = refl
      either (Some x) = refl

-- a move that overlaps no earlier one is of a block that none of them moves
first_of_block : (before : List Move) (m : Move) → list_any (λ other. moves_overlap other m) before ≡ false → find (has_source (source m)) before ≡ None
first_of_block [] m alone = refl
first_of_block (x ∷ xs) m alone = at (has_source (source m) x) refl (first_of_block xs m rest)
  where
    rest : list_any (λ other. moves_overlap other m) xs ≡ false
    rest = (or_false (moves_overlap x m) (list_any (λ other. moves_overlap other m) xs) alone).1

    at : (b : Bool) → has_source (source m) x ≡ b → find (has_source (source m)) xs ≡ None → cond b (Some x) (find (has_source (source m)) xs) ≡ None
    at true same later = absurd (both_ways (moves_overlap x m) (or_false (moves_overlap x m) (list_any (λ other. moves_overlap other m) xs) alone).0 (or_left (has_source (source m) x) (has_target m.target x) same))
    at false differs later = later

-- and then its block lies at its target, and all others where the earlier ones left them
pub moved_more : (placement : Placement) (before : List Move) (m : Move) (place : Place) → get placement (source m) ≡ Some place → list_any (λ other. moves_overlap other m) before ≡ false
    → changed (moved_by before placement) (source m) (Some m.target) ≡ moved_by (before ++ m ∷ []) placement
unfolding moved_by
moved_more placement before m place lies alone = same_table _ _ (λ block. get-changed (moved_by before placement) (source m) (Some m.target) block ∙ at block ((pairs numbers numbers).compare block (source m)) refl)
  where
    after : (block : ℕ × ℕ) → get (moved_by (before ++ m ∷ []) placement) block ≡ option_map (place_after (before ++ m ∷ []) block) (get placement block)
    after block = get-mapped (place_after (before ++ m ∷ [])) placement block

    now : (block : ℕ × ℕ) → block ≡ source m → Some m.target ≡ get (moved_by (before ++ m ∷ []) placement) block
    now block same =
        sym
        (ap (get (moved_by (before ++ m ∷ []) placement)) same
        ∙ after (source m)
        ∙ ap (option_map (place_after (before ++ m ∷ []) (source m))) lies
        ∙ ap (λ (o : Option Move). Some (elim o [ None ↦ place | Some x ↦ x.target ])) (moves_last before m (first_of_block before m alone)))

    as_before : (block : ℕ × ℕ) → has_source block m ≡ false → get (moved_by before placement) block ≡ get (moved_by (before ++ m ∷ []) placement) block
    as_before block other =
        get-mapped (place_after before) placement block
        ∙ ap (λ (o : Option Move). option_map (λ (old : Place). elim o [ None ↦ old | Some x ↦ x.target ]) (get placement block)) (sym (moves_others before m block other))
        ∙ sym (after block)

    differs : (block : ℕ × ℕ) (o : Ordering) → (pairs numbers numbers).compare block (source m) ≡ o → is_eq o ≡ false → has_source block m ≡ false
    differs block o tie apart =
        ⊎_elim
        (λ same.
        let equal : (pairs numbers numbers).compare block (source m) ≡ Equal = ap (λ b. (pairs numbers numbers).compare b (source m)) (sym (has_source-is block m same)) ∙ is_tied (source m) in
        absurd (both_ways (is_eq o) apart (ap is_eq (sym tie ∙ equal))))
        (λ other. other)
        (cases_Bool (has_source block m))

    at : (block : ℕ × ℕ) (o : Ordering) → (pairs numbers numbers).compare block (source m) ≡ o → cond (is_eq o) (Some m.target) (get (moved_by before placement) block) ≡ get (moved_by (before ++ m ∷ []) placement) block
    at block Less tie = as_before block (differs block Less tie refl)
    at block Equal tie = now block ((pairs numbers numbers).exact block (source m) tie)
    at block Greater tie = as_before block (differs block Greater tie refl)
