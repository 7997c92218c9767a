-- The fault of a move behind earlier ones, from what its tests answer.
use Rattle.std.proofs.Common.{◌≡◌, ℕ, ◌+◌, ◌*◌, ◌<◌, ◌≤◌, ◌==◌, ◌||◌, ⊎_elim, not, Bool, true, false, cond, List, [], ◌∷◌, ◌++◌, length, get_or, take, drop, Option, Some, None, option_map, is_some, eqb-true, eq-eqb, refl, sym, ap, subst, ◌∙◌, add-one, take_all, take-append-drop, lt-ltb, ltb-true, arith}
use Rattle.std.proofs.Math.Seq.{take-suc}
use Rattle.std.proofs.lemmas.List.{drop_more, length-take-le, take-append-le}
use Rattle.std.specs.Prelude.{is_none, nat_lt, IfSome}
use Rattle.std.specs.List.{list_any}
use Rattle.kfs_model.specs.FirstAnswer.{first_answer}
use Rattle.kfs_model.specs.Migration as model
use Rattle.kfs_model.specs.Migration.{Move, source, has_source, has_target, moves_overlap, fault_of_move, fault_of_moves, move_limit}
use Rattle.kfs_model.specs.Placement.{TierSizes, Place, Placement, tier_size, is_free}
use Rattle.kfs_model.specs.Table.{get}
use Rattle.kfs_image.specs.Tier.Unused.{IsNextUnused, AreTakenFrom}
use Rattle.std.proofs.lemmas.Bool.{both_ways, cases_Bool}
use Rattle.kfs_model.proofs.FirstAnswer.{first_is, none_more}
use Rattle.kfs_model.proofs.MovedBlocks.{by_tests}
use Rattle.kfs_model.specs.Limits.{block_size}
use Rattle.kfs_model.specs.Device.ShownTree.{DeviceImage, file_byte}
use Rattle.kfs_migrate.specs.Applied.{AreBytesOf}
use Rattle.kfs_types.specs.declared.moves.moves.MoveFault.{MoveFault}
use Rattle.kfs_types.specs.Moves.Faults.{Refuses, fault_of}
use Rattle.kfs_migrate.specs.Faults.{IsPossible}

-- a test of each element that is one of two tests
any_of_both : {X : Type 0} (p q : X → Bool) (xs : List X) → list_any (λ x. p x || q x) xs ≡ (list_any p xs || list_any q xs)
any_of_both p q [] = refl
any_of_both p q (x ∷ xs) = ap (λ b. (p x || q x) || b) (any_of_both p q xs) ∙ regrouped (p x) (q x) (list_any p xs) (list_any q xs)
  where
    regrouped : (a b c d : Bool) → ((a || b) || (c || d)) ≡ ((a || c) || (b || d))
    regrouped true b c d = refl
    regrouped false true true d = refl
    regrouped false true false d = refl
    regrouped false false c d = refl

module _ (sizes : TierSizes) (placement : Placement) (earlier : List Move) (m : Move) where
  abbrev is_lost : Bool
  is_lost = is_none (get placement (source m))

  abbrev is_inside : Bool
  is_inside = nat_lt m.target.place (tier_size sizes m.target.tier)

  abbrev has_overlap : Bool
  has_overlap = list_any (λ other. moves_overlap other m) earlier

  abbrev moves_again : Bool
  moves_again = list_any (has_source (source m)) earlier

  abbrev is_taken : Bool
  is_taken = list_any (has_target m.target) earlier

  pub lost : is_lost ≡ true → fault_of_move sizes placement earlier m ≡ Some (model.NotMapped (length earlier))
  lost is = ap (λ b. by_tests b is_inside (is_free placement m.target) has_overlap (length earlier)) is

  pub outside : is_lost ≡ false → is_inside ≡ false → fault_of_move sizes placement earlier m ≡ Some (model.OutOfRange (length earlier))
  outside mapped is = ap (λ b. by_tests b is_inside (is_free placement m.target) has_overlap (length earlier)) mapped ∙ ap (λ b. by_tests false b (is_free placement m.target) has_overlap (length earlier)) is

  pub used : is_lost ≡ false → is_inside ≡ true → is_free placement m.target ≡ false → fault_of_move sizes placement earlier m ≡ Some (model.NotFree (length earlier))
  used mapped inside is =
      ap (λ b. by_tests b is_inside (is_free placement m.target) has_overlap (length earlier)) mapped
      ∙ ap (λ b. by_tests false b (is_free placement m.target) has_overlap (length earlier)) inside
      ∙ ap (λ b. by_tests false true b has_overlap (length earlier)) is

  module _ (possible : IsPossible sizes placement m) where
    by_overlap : (b : Bool) → has_overlap ≡ b → fault_of_move sizes placement earlier m ≡ cond b (Some (model.Overlap (length earlier))) None
    by_overlap b is =
        ap (λ b. by_tests b is_inside (is_free placement m.target) has_overlap (length earlier)) possible.mapped
        ∙ ap (λ b. by_tests false b (is_free placement m.target) has_overlap (length earlier)) (lt-ltb _ _ possible.inside)
        ∙ ap (λ b. by_tests false true b has_overlap (length earlier)) possible.free
        ∙ ap (λ b. by_tests false true true b (length earlier)) is

    pub same_source : moves_again ≡ true → fault_of_move sizes placement earlier m ≡ Some (model.Overlap (length earlier))
    same_source again = by_overlap true (any_of_both (has_source (source m)) (has_target m.target) earlier ∙ ap (λ b. b || is_taken) again)

    pub same_target : is_taken ≡ true → fault_of_move sizes placement earlier m ≡ Some (model.Overlap (length earlier))
    same_target taken = by_overlap true (any_of_both (has_source (source m)) (has_target m.target) earlier ∙ ap (λ b. moves_again || b) taken ∙ either moves_again)
      where
        either : (b : Bool) → (b || true) ≡ true
        either true = refl
        either false = refl

    pub no_fault : moves_again ≡ false → is_taken ≡ false → fault_of_move sizes placement earlier m ≡ None
    no_fault new free = by_overlap false (any_of_both (has_source (source m)) (has_target m.target) earlier ∙ ap (λ b. b || is_taken) new ∙ free)

-- ---- a move among others

module _ (moves : List Move) (i : ℕ) (m : Move) (below : i < length moves) (is : m ≡ get_or moves i m) where
  pub cut_here : take i moves ++ m ∷ drop (i + 1) moves ≡ moves
  cut_here =
      let ahead : drop i moves ≡ m ∷ drop (i + 1) moves = drop_more moves i m below ∙ ap (λ x. x ∷ drop (i + 1) moves) (sym is) in
      ap (λ rest. take i moves ++ rest) (sym ahead) ∙ take-append-drop i moves

  pub grown : take (i + 1) moves ≡ take i moves ++ m ∷ []
  grown = ap (λ n. take n moves) (add-one i) ∙ take-suc moves i m below ∙ ap (λ x. take i moves ++ x ∷ []) (sym is)

-- ---- the first fault

abbrev pub first_fault : TierSizes → Placement → List Move → Option model.MoveFault
first_fault sizes placement moves = first_answer (fault_of_move sizes placement) moves

module _ (sizes : TierSizes) (placement : Placement) (moves : List Move) where
  abbrev by_count : Bool → Option model.MoveFault
  by_count many = cond many (Some model.TooManyMoves) (first_fault sizes placement moves)

  pub too_many : move_limit < length moves → fault_of_moves sizes placement moves ≡ Some model.TooManyMoves
  too_many many = ap by_count (lt-ltb _ _ many)

  pub few : length moves ≤ move_limit → fault_of_moves sizes placement moves ≡ first_fault sizes placement moves
  few within = ap by_count (not_many (nat_lt move_limit (length moves)) refl)
    where
      not_many : (b : Bool) → nat_lt move_limit (length moves) ≡ b → nat_lt move_limit (length moves) ≡ false
      not_many true is = let more = ltb-true _ _ is in absurd (omega arith)
      not_many false is = is

  module _ (i : ℕ) (m : Move) (below : i < length moves) (is : m ≡ get_or moves i m) (none : first_fault sizes placement (take i moves) ≡ None) where
    -- a fault behind those before it is the first
    fault_here : (fault : model.MoveFault) → fault_of_move sizes placement (take i moves) m ≡ Some fault → first_fault sizes placement moves ≡ Some fault
    fault_here fault found =
        sym (ap (first_fault sizes placement) (cut_here moves i m below is)) ∙ first_is (fault_of_move sizes placement) (take i moves) m (drop (i + 1) moves) none (ap is_some found) ∙ found

    pub refused_here : length moves ≤ move_limit → (fault : MoveFault) → Refuses (fault_of_move sizes placement (take i moves) m) fault → Refuses (fault_of_moves sizes placement moves) fault
    refused_here within fault refuses = by (fault_of fault) refuses
      where
        by : (o : Option model.MoveFault) → IfSome o (λ refusal. fault_of_move sizes placement (take i moves) m ≡ Some refusal) → IfSome o (λ refusal. fault_of_moves sizes placement moves ≡ Some refusal)
        by None refuses = tt
        by (Some refusal) refuses = few within ∙ fault_here refusal refuses

    pub passes : fault_of_move sizes placement (take i moves) m ≡ None → first_fault sizes placement (take (i + 1) moves) ≡ None
    passes clean = ap (first_fault sizes placement) (grown moves i m below is) ∙ none_more (fault_of_move sizes placement) (take i moves) m none clean

-- ---- what an image answers

module _ (sizes : TierSizes) (placement : Placement) (place : Place) (inside : place.place < tier_size sizes place.tier) where
  -- the next free place from this one on is this one exactly where it is free
  pub free_if_next : (next : ℕ) → IsNextUnused sizes placement place.tier place.place next → (next == place.place) ≡ is_free placement place
  free_if_next next is = by (next == place.place) refl
    where
      by : (b : Bool) → (next == place.place) ≡ b → b ≡ is_free placement place
      by true same = sym (ap (λ n. is_free placement (record place { place = n })) (sym (eqb-true next place.place same)) ∙ is.unused)
      by false differs =
          ⊎_elim
          (λ free.
          let least = is.least place.place (omega arith) inside free in
          let reached = is.reached in
          absurd (both_ways (next == place.place) differs (eq-eqb next place.place (omega arith))))
          (λ used. sym used)
          (cases_Bool (is_free placement place))

  pub used_if_none : AreTakenFrom sizes placement place.tier place.place → false ≡ is_free placement place
  used_if_none taken = sym (taken place.place (omega arith) inside)

pub same_none : {X Y : Type 0} (f : X → Y) (o : Option X) → is_none (option_map f o) ≡ is_none o
same_none f None = refl
same_none f (Some x) = refl

pub not_below : (a b : ℕ) → b ≤ a → nat_lt a b ≡ false
not_below a b above = at (nat_lt a b) refl
  where
    at : (t : Bool) → nat_lt a b ≡ t → nat_lt a b ≡ false
    at true is = let less = ltb-true a b is in absurd (omega arith)
    at false is = is

-- the bytes that were read to the front of a buffer, which they fill
pub bytes_are : (image : DeviceImage) (m : Move) (count : ℕ) (buffer old : List ℕ) → length buffer ≡ block_size → count ≡ block_size
    → ((k : ℕ) → k < length buffer → get_or buffer k 0 ≡ file_byte image.placement image.devices m.number (m.block * block_size + k)) → AreBytesOf image m (take count (buffer ++ drop (length buffer) old))
bytes_are image m count buffer old long many each =
    let front : take count (buffer ++ drop (length buffer) old) ≡ buffer = take-append-le count buffer (drop (length buffer) old) (omega arith) ∙ take_all count buffer (omega arith) in
    subst (AreBytesOf image m) (sym front) (record { many = long; each = λ k below. each k (omega (arith, long, below)) })
