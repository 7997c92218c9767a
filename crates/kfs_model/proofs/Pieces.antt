-- Pieces have no wrong one exactly where they are right.
use Rattle.std.proofs.Common.{◌≡◌, ℕ, zero, suc, ◌+◌, ◌<◌, ◌≤◌, Bool, true, false, not, ◌&&◌, ◌||◌, ltb, leb, eqb, ◌==◌, List, [], ◌∷◌, ◌++◌, length, filter, cond, Option, Some, None, ◌⊎◌, ⊎_elim, refl, sym, ap, subst, ◌∙◌, append_assoc, arith}
use Rattle.std.specs.Bool.{Decides}
use Rattle.std.specs.List.{list_any, last_or, AllByRecursion}
use Rattle.std.proofs.lemmas.Bool.{or_parts, or_from, not-false, not_from_true, eqb-false, ne_eqb}
use Rattle.std.proofs.lemmas.Bool.Decides.{nat_tests}
use Rattle.kfs_model.specs.Tree.{Tree}
use Rattle.kfs_model.specs.Run.{Mark}
use Rattle.kfs_model.specs.PlanRow.{Piece}
use Rattle.kfs_model.specs.Plan.{mark_at, mark_of_source, end_of, covers, IsBehind, PiecesAscend, IsTrueOf, ArePieces}
use Rattle.kfs_model.specs.FirstWrong.{same_option, same_mark, holds_along, begins_early, is_missed, lies_before, is_wrong, changed_bytes, wrong_below, missed_by, first_wrong_piece}
use Rattle.kfs_model.specs.FirstAnswer.{first_answer}
use Rattle.kfs_model.specs.Check.{is_some_and}
use Rattle.std.proofs.lemmas.List.Folds.{list_any-append}
use Rattle.kfs_model.proofs.FirstAnswer.{NoneBehind, each_from_none, none_from_each}
use Rattle.kfs_model.proofs.Exact.{options-exact, marks-exact}
use Rattle.kfs_model.proofs.ChangedBytes.{IsChanged, none_changed, none_from_changed}

here_or_later : (a d : ℕ) → a ≤ d → (a ≡ d) ⊎ (a + 1 ≤ d)
here_or_later a d h = grind arith

-- ---- one piece

module _ (t : Tree Mark) (p : Piece) where
  unfoldable pub HasMark : ℕ → Type 0
  HasMark distance = mark_at t p.number (p.start + distance) ≡ Some (mark_of_source p.source distance)

  mark_decides : (distance : ℕ) → Decides (same_option same_mark (mark_at t p.number (p.start + distance)) (Some (mark_of_source p.source distance))) (HasMark distance)
  unfolding HasMark
  mark_decides distance = (options-exact same_mark marks-exact).decides _ _

  pub all_along : (count distance : ℕ) → holds_along t p distance count ≡ true → (d : ℕ) → distance ≤ d → d < distance + count → HasMark d
  all_along zero distance holds d low high = absurd (omega arith)
  all_along (suc count) distance holds d low high = at (same_option same_mark (mark_at t p.number (p.start + distance)) (Some (mark_of_source p.source distance))) (mark_decides distance).0 (all_along count (distance + 1)) holds
    where
      at : (b : Bool) → (b ≡ true → HasMark distance) → (holds_along t p (distance + 1) count ≡ true → (d : ℕ) → distance + 1 ≤ d → d < distance + 1 + count → HasMark d)
          → elim b [ true ↦ holds_along t p (distance + 1) count | false ↦ false ] ≡ true → HasMark d
      at true here rest holds = ⊎_elim (λ e. subst HasMark e (here refl)) (λ (l : distance + 1 ≤ d). rest holds d l (omega arith)) (here_or_later distance d low)
      at false here rest holds = cc

  pub along_all : (count distance : ℕ) → ((d : ℕ) → distance ≤ d → d < distance + count → HasMark d) → holds_along t p distance count ≡ true
  along_all zero distance each = refl
  along_all (suc count) distance each = at (same_option same_mark (mark_at t p.number (p.start + distance)) (Some (mark_of_source p.source distance))) ((mark_decides distance).1 (each distance (omega arith) (omega arith))) (along_all count (distance + 1) (λ d low high. each d (omega arith) (omega arith)))
    where
      at : (b : Bool) → b ≡ true → holds_along t p (distance + 1) count ≡ true → elim b [ true ↦ holds_along t p (distance + 1) count | false ↦ false ] ≡ true
      at true e rest = rest
      at false e rest = cc

-- ---- one piece behind another

pub early_parts : (a b s e : ℕ) → (ltb b a || (eqb b a && ltb s e)) ≡ false → (a < b) ⊎ ((a ≡ b) × (e ≤ s))
early_parts a b s e h = grind (arith, nat_tests)

pub early_from : (a b s e : ℕ) → (a < b) ⊎ ((a ≡ b) × (e ≤ s)) → (ltb b a || (eqb b a && ltb s e)) ≡ false
early_from a b s e h = grind (arith, nat_tests)

pub before_parts : (n i m s : ℕ) → (ltb n m || (eqb n m && ltb i s)) ≡ true → (n < m) ⊎ ((n ≡ m) × (i < s))
before_parts n i m s h = grind (arith, nat_tests)

covers_apart : (n i m s e : ℕ) → (n < m) ⊎ ((n ≡ m) × (i < s)) → (eqb m n && leb s i && ltb i e) ≡ false
covers_apart n i m s e h = grind (arith, nat_tests)

further : (n i a s e b q : ℕ) → s ≤ e → (a < b) ⊎ ((a ≡ b) × (e ≤ q)) → (n < a) ⊎ ((n ≡ a) × (i < s)) → (n < b) ⊎ ((n ≡ b) × (i < q))
further n i a s e b q k behind h = grind arith

-- a byte that lies before a piece is in none of the pieces from there on
pub none_before : (n i : ℕ) (p : Piece) (ps : List Piece) → PiecesAscend (p ∷ ps) → (n < p.number) ⊎ ((n ≡ p.number) × (i < p.start)) → list_any (covers n i) (p ∷ ps) ≡ false
none_before n i p [] ascending before = or_from _ _ (covers_apart n i p.number p.start (end_of p) before) refl
none_before n i p (q ∷ rest) ascending before =
    or_from _ _ (covers_apart n i p.number p.start (end_of p) before)
    (none_before n i q rest ascending.1 (further n i p.number p.start (end_of p) q.number q.start (omega arith) ascending.0 before))

-- those that stand behind some ascend too
ascend_behind : (above ps : List Piece) → PiecesAscend (above ++ ps) → PiecesAscend ps
ascend_behind [] ps ascending = ascending
ascend_behind (p ∷ []) [] ascending = tt
ascend_behind (p ∷ []) (q ∷ rest) ascending = ascending.1
ascend_behind (p ∷ q ∷ above) ps ascending = ascend_behind (q ∷ above) ps ascending.1

all_behind : (P : Piece → Type 0) (above ps : List Piece) → AllByRecursion P (above ++ ps) → AllByRecursion P ps
all_behind P [] ps all = all
all_behind P (p ∷ above) ps all = all_behind P above ps all.1

begins_behind : (above : List Piece) (p : Piece) (ps : List Piece) → PiecesAscend (above ++ p ∷ ps) → begins_early above p ≡ false
begins_behind [] p ps ascending = refl
begins_behind (q ∷ []) p ps ascending = early_from q.number p.number p.start (end_of q) ascending.0
begins_behind (q ∷ r ∷ above) p ps ascending = begins_behind (r ∷ above) p ps ascending.1

pub last_is : (o : Option Piece) (above : List Piece) (p : Piece) → last_or o (above ++ p ∷ []) ≡ Some p
last_is o [] p = refl
last_is o (q ∷ above) p = last_is (Some q) above p

-- ---- all pieces

pub list_any-filter : {X : Type 0} (test f : X → Bool) (xs : List X) → list_any test (filter f xs) ≡ list_any (λ x. f x && test x) xs
list_any-filter test f [] = refl
list_any-filter test f (x ∷ xs) = at (f x) (list_any-filter test f xs)
  where
    at : (b : Bool) → list_any test (filter f xs) ≡ list_any (λ x. f x && test x) xs → list_any test (cond b (x ∷ filter f xs) (filter f xs)) ≡ ((b && test x) || list_any (λ x. f x && test x) xs)
    at true e = ap (λ r. test x || r) e
    at false e = e

none_to_false : (b : Bool) (index : ℕ) → ◌≡◌ {A = Option ℕ} (elim b [ true ↦ Some index | false ↦ None ]) None → b ≡ false
none_to_false true index none = cc
none_to_false false index none = refl

pub none_from_false : (b : Bool) (index : ℕ) → b ≡ false → ◌≡◌ {A = Option ℕ} (elim b [ true ↦ Some index | false ↦ None ]) None
none_from_false b index is = ap (λ (c : Bool). elim c as (λ _. Option ℕ) [ true ↦ Some index | false ↦ None ]) is

none_parts : (found rest : Option ℕ) → ◌≡◌ {A = Option ℕ} (elim found [ Some index ↦ Some index | None ↦ rest ]) None → (found ≡ None) × (rest ≡ None)
none_parts None rest none = (refl, none)
none_parts (Some index) rest none = cc

module _ (t : Tree Mark) where
  -- no changed byte is in no piece
  covered_from_none : (pieces : List Piece) → is_missed pieces (changed_bytes t) ≡ false → (n i : ℕ) → IsChanged t n i → list_any (covers n i) pieces ≡ true
  covered_from_none pieces none n i is = not-false _ (none_changed t (λ byte. not (list_any (covers byte.0 byte.1) pieces)) none n i is)

  pub none_from_covered : (pieces : List Piece) → ((n i : ℕ) → IsChanged t n i → list_any (covers n i) pieces ≡ true) → is_missed pieces (changed_bytes t) ≡ false
  none_from_covered pieces covered = none_from_changed t (λ byte. not (list_any (covers byte.0 byte.1) pieces)) (λ n i is. not_from_true _ (covered n i is))

  -- what `is_wrong` says of a piece
  pub record IsWell (above : List Piece) (p : Piece) : Type 0 where
    pub filled : (p.length == 0) ≡ false
    pub begins : begins_early above p ≡ false
    pub holds : holds_along t p 0 p.length ≡ true
    pub missed : is_missed above (filter (λ byte. lies_before byte p.number p.start) (changed_bytes t)) ≡ false

  pub well_parts : (above : List Piece) (p : Piece) → wrong_below t above p ≡ None → IsWell above p
  unfolding is_wrong
  well_parts above p h =
      let last = or_parts _ _ (none_to_false (is_wrong t above p) (length above) h) in
      let third = or_parts _ _ last.0 in
      let second = or_parts _ _ third.0 in
      record { filled = second.0; begins = second.1; holds = not-false _ third.1; missed = last.1 }

  pub well_from : (above : List Piece) (p : Piece) → IsWell above p → wrong_below t above p ≡ None
  unfolding is_wrong
  well_from above p h = none_from_false (is_wrong t above p) (length above) (or_from _ _ (or_from _ _ (or_from _ _ h.filled h.begins) (not_from_true _ h.holds)) h.missed)

  well_is_true : (above : List Piece) (p : Piece) → IsWell above p → IsTrueOf t p
  unfolding HasMark
  well_is_true above p well = record {
    filled = let apart = eqb-false p.length 0 well.filled in omega arith;
    said = λ distance below. all_along t p p.length 0 well.holds distance (omega arith) (omega arith);
  }

  -- ---- none is wrong

  module _ (pieces : List Piece) (none : NoneBehind (wrong_below t) pieces) where
    well_behind : (above : List Piece) (p : Piece) (ps : List Piece) → pieces ≡ above ++ p ∷ ps → IsWell above p
    well_behind above p ps is = well_parts above p (none above p ps is)

    all_said : (above ps : List Piece) → pieces ≡ above ++ ps → AllByRecursion (IsTrueOf t) ps
    all_said above [] is = tt
    all_said above (p ∷ ps) is = (well_is_true above p (well_behind above p ps is), all_said (above ++ p ∷ []) ps (is ∙ sym (append_assoc above (p ∷ []) ps)))

    behind_last : (above : List Piece) (p q : Piece) → begins_early (above ++ p ∷ []) q ≡ false → IsBehind p q
    behind_last above p q begins =
        early_parts p.number q.number q.start (end_of p) (sym (ap (λ o. is_some_and o (λ r. lies_before (q.number, q.start) r.number (end_of r))) (last_is None above p)) ∙ begins)

    all_ascend : (above ps : List Piece) → pieces ≡ above ++ ps → PiecesAscend ps
    all_ascend above [] is = tt
    all_ascend above (p ∷ []) is = tt
    all_ascend above (p ∷ q ∷ rest) is =
        let later : pieces ≡ (above ++ p ∷ []) ++ q ∷ rest = is ∙ sym (append_assoc above (p ∷ []) (q ∷ rest)) in
        (behind_last above p q (well_behind (above ++ p ∷ []) q rest later).begins, all_ascend (above ++ p ∷ []) (q ∷ rest) later)

  pub pieces_from_none : (pieces : List Piece) → first_wrong_piece t pieces ≡ None → ArePieces t pieces
  pieces_from_none pieces e =
      let parts = none_parts (first_answer (wrong_below t) pieces) (missed_by t pieces) e in
      let none = each_from_none (wrong_below t) pieces parts.0 in
      let covered = covered_from_none pieces (none_to_false (is_missed pieces (changed_bytes t)) (length pieces) parts.1) in
      record {
        ascending = all_ascend pieces none [] pieces refl;
        said = all_said pieces none [] pieces refl;
        covered = λ n i mark stands changed. covered n i (record { mark = mark; stands = stands; changed = changed });
      }

  -- ---- right pieces

  module _ (above : List Piece) (p : Piece) (ps : List Piece) (h : ArePieces t (above ++ p ∷ ps)) where
    -- a changed byte that lies before the piece is in one above
    before_is_above : (n i : ℕ) → IsChanged t n i → (lies_before (n, i) p.number p.start && not (list_any (covers n i) above)) ≡ false
    before_is_above n i is = at (lies_before (n, i) p.number p.start) refl
      where
        above_only : (a b : Bool) → (a || b) ≡ true → b ≡ false → not a ≡ false
        above_only true b e f = refl
        above_only false b e f = cc

        at : (b : Bool) → lies_before (n, i) p.number p.start ≡ b → (b && not (list_any (covers n i) above)) ≡ false
        at true e =
            above_only (list_any (covers n i) above) (list_any (covers n i) (p ∷ ps)) (sym (list_any-append (covers n i) above (p ∷ ps)) ∙ h.covered n i is.mark is.stands is.changed)
            (none_before n i p ps (ascend_behind above (p ∷ ps) h.ascending) (before_parts n i p.number p.start e))
        at false e = refl

    piece_is_well : IsWell above p
    unfolding HasMark
    piece_is_well =
        let said = (all_behind (IsTrueOf t) above (p ∷ ps) h.said).0 in
        record {
          filled = ne_eqb p.length 0 (let filled = said.filled in λ e. omega arith);
          begins = begins_behind above p ps h.ascending;
          holds = along_all t p p.length 0 (λ d low high. said.said d (omega arith));
          missed = list_any-filter (λ byte. not (list_any (covers byte.0 byte.1) above)) (λ byte. lies_before byte p.number p.start) (changed_bytes t)
              ∙ none_from_changed t (λ byte. lies_before byte p.number p.start && not (list_any (covers byte.0 byte.1) above)) before_is_above;
        }

  pub none_from_pieces : (pieces : List Piece) → ArePieces t pieces → first_wrong_piece t pieces ≡ None
  none_from_pieces pieces h =
      let none = none_from_each (wrong_below t) pieces (λ above p ps is. well_from above p (piece_is_well above p ps (subst (ArePieces t) is h))) in
      let missed = none_from_covered pieces (λ n i is. h.covered n i is.mark is.stands is.changed) in
      ap (λ (found : Option ℕ). elim found as (λ _. Option ℕ) [ Some index ↦ Some index | None ↦ missed_by t pieces ]) none ∙ none_from_false (is_missed pieces (changed_bytes t)) (length pieces) missed
