-- A plan's pieces followed along right ones are first apart where the first of them is wrong.
use Rattle.std.proofs.Common.{◌≡◌, ℕ, ◌+◌, ◌-◌, ◌<◌, ◌≤◌, ◌⊎◌, ⊎_elim, Bool, true, false, not, ◌==◌, ◌&&◌, ◌||◌, ltb, leb, eqb, List, [], ◌∷◌, ◌++◌, length, Option, Some, None, is_some, refl, sym, ap, ◌∙◌, append_assoc, length-append, arith}
use Rattle.std.specs.List.{list_any, AllByRecursion}
use Rattle.std.proofs.lemmas.Bool.{true_from_ne_false, both_ways, eqb-false}
use Rattle.std.proofs.lemmas.Bool.Decides.{nat_tests}
use Rattle.std.proofs.lemmas.List.{append-nil}
use Rattle.std.proofs.lemmas.List.Folds.{list_any-append}
use Rattle.kfs_model.specs.Tree.{Tree}
use Rattle.kfs_model.specs.Run.{Mark}
use Rattle.kfs_model.specs.PlanRow.{Piece}
use Rattle.kfs_model.specs.Plan.{mark_at, mark_of_source, is_base, end_of, covers, ComesBy, PiecesAscend, IsTrueOf, ArePieces}
use Rattle.kfs_model.specs.PlanCut.{mark_in_pieces}
use Rattle.kfs_model.specs.FirstWrong.{begins_early, is_missed, is_wrong, lies_before, changed_bytes, missed_by, wrong_below, first_wrong_piece}
use Rattle.kfs_pieces.specs.PiecesApart.{behind_piece, first_apart}
use Rattle.kfs_model.proofs.ChangedBytes.{IsChanged, none_changed, none_from_changed}
use Rattle.kfs_model.proofs.Cut.{changed_mark, changed_mark-said, is_changed, stays_changed, said_of_pieces}
use Rattle.kfs_model.specs.Check.{is_some_and}
use Rattle.kfs_model.specs.FirstAnswer.{first_answer}
use Rattle.kfs_model.proofs.FirstAnswer.{first_is, none_more}
use Rattle.kfs_model.proofs.Pieces.{HasMark, IsWell, well_parts, well_from, all_along, along_all, list_any-filter, early_parts, early_from, before_parts, last_is, none_from_false, none_from_covered}
use Rattle.kfs_pieces.proofs.PiecesFollowed.{IsBefore, AreFrom, Follows, either_side, none_said, first_said, follows, differs}

-- ---- over plain numbers

before_from : (n i m s : ℕ) → (n < m) ⊎ ((n ≡ m) × (i < s)) → (ltb n m || (eqb n m && ltb i s)) ≡ true
before_from n i m s h = grind (arith, nat_tests)

outside_before : (k s e m q : ℕ) → (eqb k m && leb s q && ltb q e) ≡ false → (m < k) ⊎ ((m ≡ k) × (q < e)) → (m < k) ⊎ ((m ≡ k) × (q < s))
outside_before k s e m q h i = grind (arith, nat_tests)

behind_free : (k s e m q : ℕ) → (k < m) ⊎ ((k ≡ m) × (e ≤ q)) → (eqb k m && leb s q && ltb q e) ≡ false
behind_free k s e m q h = grind (arith, nat_tests)

further_on : (n e k s l m q : ℕ) → (n < k) ⊎ ((n ≡ k) × (e ≤ s)) → (k < m) ⊎ ((k ≡ m) × (s + l ≤ q)) → (n < m) ⊎ ((n ≡ m) × (e ≤ q))
further_on n e k s l m q h i = grind arith

no_byte_before : (m q : ℕ) → (m < 0) ⊎ ((m ≡ 0) × (q < 0)) → ⊥
no_byte_before m q h = grind arith

at_start : (n e k s d : ℕ) → (n < k) ⊎ ((n ≡ k) × (e ≤ s)) → (n < k) ⊎ ((n ≡ k) × (e ≤ s + d))
at_start n e k s d h = grind arith

no_early : (a b : ℕ) → (ltb a 0 || (eqb a 0 && ltb b 0)) ≡ false
no_early a b = grind (arith, nat_tests)

changed_is : (o : Option Mark) (mark : Mark) → changed_mark o ≡ Some mark → is_base mark ≡ false
changed_is None mark e = cc
changed_is (Some (Mark.Base number place)) mark e = cc
changed_is (Some Mark.Zero) mark e = let same : Mark.Zero ≡ mark = cc in ap is_base (sym same)
changed_is (Some (Mark.Payload entry place)) mark e = let same : Mark.Payload entry place ≡ mark = cc in ap is_base (sym same)

module _ (after : Tree Mark) where
  -- Every changed byte before this one is in a piece above, which end by it; the right pieces that are left say the rest.
  record Stands (above : List Piece) (n e : ℕ) (right : List Piece) : Type 0 where
    early : (q : Piece) → begins_early above q ≡ (ltb q.number n || (eqb q.number n && ltb q.start e))
    ordered : AreFrom n e right
    says : (m q : ℕ) → ComesBy n e m q → mark_in_pieces right m q ≡ changed_mark (mark_at after m q)
    covered : (m q : ℕ) → IsBefore m q n e → IsChanged after m q → list_any (covers m q) above ≡ true
    free : (m q : ℕ) → ComesBy n e m q → list_any (covers m q) above ≡ false

  changed_from_said : (m q : ℕ) (mark : Mark) → changed_mark (mark_at after m q) ≡ Some mark → IsChanged after m q
  changed_from_said m q mark e = record { mark = mark; stands = is_changed after (mark_at after m q) mark e; changed = changed_is (mark_at after m q) mark e }

  said_from_changed : (m q : ℕ) (is : IsChanged after m q) → changed_mark (mark_at after m q) ≡ Some is.mark
  said_from_changed m q is = ap changed_mark is.stands ∙ stays_changed after is.mark is.changed

  module _ (above : List Piece) (n e : ℕ) (right : List Piece) (stands : Stands above n e right) (p : Piece) (some : (p.length == 0) ≡ false) where
    filled : 0 < p.length
    filled = let apart = eqb-false p.length 0 some in omega arith

    module _ (rest : List Piece) (follow : Follows p right rest) where
      -- the piece begins where the right pieces do, so not before them
      comes : ComesBy n e p.number p.start
      comes = ⊎_elim
          (λ (h : IsBefore p.number p.start n e).
          let place : p.start + 0 ≡ p.start = omega arith in
          let both : ◌≡◌ {A = Option Mark} None (Some (mark_of_source p.source 0)) = sym (none_said p.number p.start n e right h stands.ordered) ∙ ap (mark_in_pieces right p.number) (sym place) ∙ follow.said 0 filled in
          cc)
          (λ (h : ComesBy n e p.number p.start). h)
          (either_side p.number p.start n e)

      covered_before : (m q : ℕ) → IsBefore m q p.number p.start → IsChanged after m q → list_any (covers m q) above ≡ true
      covered_before m q h is = ⊎_elim
          (λ (before : IsBefore m q n e). stands.covered m q before is)
          (λ (behind : ComesBy n e m q).
          let both : ◌≡◌ {A = Option Mark} None (Some is.mark) = sym (follow.begun m q h) ∙ stands.says m q behind ∙ said_from_changed m q is in
          cc)
          (either_side m q n e)

      with_last : (m q : ℕ) → list_any (covers m q) (above ++ p ∷ []) ≡ (covers m q p || list_any (covers m q) above)
      with_last m q = list_any-append (covers m q) above (p ∷ []) ∙ turned (list_any (covers m q) above) (covers m q p)
        where
          turned : (a b : Bool) → (a || (b || false)) ≡ (b || a)
          turned true true = refl
          turned true false = refl
          turned false true = refl
          turned false false = refl

      stands_next : Stands (above ++ p ∷ []) p.number (end_of p) rest
      stands_next = record {
        early = λ q. ap (λ o. is_some_and o (λ r. lies_before (q.number, q.start) r.number (end_of r))) (last_is None above p);
        ordered = follow.from;
        says = λ m q h. follow.same m q h ∙ stands.says m q (further_on n e p.number p.start p.length m q comes h);
        covered = λ m q h is. with_last m q ∙ at m q h is (covers m q p) refl;
        free = λ m q h. with_last m q ∙ ap (λ b. b || list_any (covers m q) above) (behind_free p.number p.start (end_of p) m q h) ∙ stands.free m q (further_on n e p.number p.start p.length m q comes h);
      }
        where
          at : (m q : ℕ) → IsBefore m q p.number (end_of p) → IsChanged after m q → (b : Bool) → covers m q p ≡ b → (covers m q p || list_any (covers m q) above) ≡ true
          at m q h is true e = ap (λ b. b || list_any (covers m q) above) e
          at m q h is false e = ap (λ b. b || list_any (covers m q) above) e ∙ covered_before m q (outside_before p.number p.start (end_of p) m q e h) is

      has_mark : (d : ℕ) → d < p.length → HasMark after p d
      unfolding HasMark
      has_mark d h = is_changed after (mark_at after p.number (p.start + d)) (mark_of_source p.source d) (sym (stands.says p.number (p.start + d) (at_start n e p.number p.start d comes)) ∙ follow.said d h)

      missed_none : (m q : ℕ) → IsChanged after m q → (lies_before (m, q) p.number p.start && not (list_any (covers m q) above)) ≡ false
      missed_none m q is = at (lies_before (m, q) p.number p.start) refl
        where
          at : (b : Bool) → lies_before (m, q) p.number p.start ≡ b → (b && not (list_any (covers m q) above)) ≡ false
          at true e = ap not (covered_before m q (before_parts m q p.number p.start e) is)
          at false e = refl

      well : wrong_below after above p ≡ None
      well = well_from after above p (record {
        filled = some;
        begins = stands.early p ∙ early_from n p.number p.start e comes;
        holds = along_all after p p.length 0 (λ d low high. has_mark d (omega arith));
        missed = list_any-filter (λ byte. not (list_any (covers byte.0 byte.1) above)) (λ byte. lies_before byte p.number p.start) (changed_bytes after)
            ∙ none_from_changed after (λ byte. lies_before byte p.number p.start && not (list_any (covers byte.0 byte.1) above)) missed_none;
      })

    -- what is wrong with a piece that can't be followed
    wrong : behind_piece p right ≡ None → is_wrong after above p ≡ true
    unfolding HasMark
    wrong none = true_from_ne_false _ (λ fine.
        let is = well_parts after above p (none_from_false (is_wrong after above p) (length above) fine) in
        let begins = early_parts n p.number p.start e (sym (stands.early p) ∙ is.begins) in
        ⊎_elim (other_mark is begins) (missed_byte is) (differs right p n e filled stands.ordered none))
      where
        other_mark : IsWell after above p → ComesBy n e p.number p.start → ((d : ℕ) × (d < p.length) × (mark_in_pieces right p.number (p.start + d) ≡ Some (mark_of_source p.source d) → ⊥)) → ⊥
        other_mark is begins one =
            let (d, below, other) = one in
            other (stands.says p.number (p.start + d) (at_start n e p.number p.start d begins) ∙ ap changed_mark (all_along after p p.length 0 is.holds d (omega arith) (omega arith)) ∙ changed_mark-said p.source d)

        missed_byte : IsWell after above p → ((m : ℕ) × (q : ℕ) × (mark : Mark) × ComesBy n e m q × IsBefore m q p.number p.start × (mark_in_pieces right m q ≡ Some mark)) → ⊥
        missed_byte is two =
            let (m, q, mark, behind, before, said) = two in
            let changed = changed_from_said m q mark (sym (stands.says m q behind) ∙ said) in
            let none = none_changed after (λ byte. lies_before byte p.number p.start && not (list_any (covers byte.0 byte.1) above))
            (sym (list_any-filter (λ byte. not (list_any (covers byte.0 byte.1) above)) (λ byte. lies_before byte p.number p.start) (changed_bytes after)) ∙ is.missed) m q changed in
            both_ways (lies_before (m, q) p.number p.start && not (list_any (covers m q) above)) none
            ((λ i. before_from m q p.number p.start before i && not (stands.free m q behind i)))

  -- ---- all pieces

  none_left : (above : List Piece) (n e : ℕ) → Stands above n e [] → is_missed above (changed_bytes after) ≡ false
  none_left above n e stands = none_from_covered after above (λ m q is. ⊎_elim
      (λ (before : IsBefore m q n e). stands.covered m q before is)
      (λ (behind : ComesBy n e m q).
      let both : ◌≡◌ {A = Option Mark} None (Some is.mark) = stands.says m q behind ∙ said_from_changed m q is in
      cc)
      (either_side m q n e))

  some_left : (above : List Piece) (n e : ℕ) (r : Piece) (rs : List Piece) → Stands above n e (r ∷ rs) → is_missed above (changed_bytes after) ≡ true
  some_left above n e r rs stands = true_from_ne_false _ (λ none.
      let behind = stands.ordered.0 in
      let said = first_said r rs stands.ordered.1 in
      let changed = changed_from_said r.number r.start (mark_of_source r.source (r.start - r.start)) (sym (stands.says r.number r.start behind) ∙ said) in
      both_ways (not (list_any (covers r.number r.start) above)) (none_changed after (λ byte. not (list_any (covers byte.0 byte.1) above)) none r.number r.start changed)
      (ap not (stands.free r.number r.start behind)))

  -- the first answer, or else what all of them miss
  abbrev or_missed : List Piece → Option ℕ → Option ℕ
  or_missed pieces found = elim found as (λ _. Option ℕ) [ Some index ↦ Some index | None ↦ missed_by after pieces ]

  abbrev named : List Piece → Bool → Option ℕ
  named pieces wrong = elim wrong as (λ _. Option ℕ) [ true ↦ Some (length pieces) | false ↦ None ]

  apart_is_wrong : (ps above : List Piece) (n e : ℕ) (right : List Piece) → first_answer (wrong_below after) above ≡ None → Stands above n e right
      → first_wrong_piece after (above ++ ps) ≡ first_apart (length above) ps right
  unfolding first_apart
  apart_is_wrong [] above n e [] none stands = ap (first_wrong_piece after) (append-nil above) ∙ ap (or_missed above) none ∙ ap (named above) (none_left above n e stands)
  apart_is_wrong [] above n e (r ∷ rs) none stands = ap (first_wrong_piece after) (append-nil above) ∙ ap (or_missed above) none ∙ ap (named above) (some_left above n e r rs stands)
  apart_is_wrong (p ∷ ps) above n e right none stands =
      at_length (p.length == 0) refl (λ rest good next.
      ap (first_wrong_piece after) (sym (append_assoc above (p ∷ []) ps))
      ∙ apart_is_wrong ps (above ++ p ∷ []) p.number (end_of p) rest (none_more (wrong_below after) above p none good) next
      ∙ ap (λ index. first_apart index ps rest) (length-append above (p ∷ [])))
    where
      found : Option (List Piece) → Option ℕ
      found o = elim o [ None ↦ Some (length above) | Some rest ↦ first_apart (length above + 1) ps rest ]

      -- a wrong piece is the first one
      wrong_is_first : is_wrong after above p ≡ true → first_wrong_piece after (above ++ p ∷ ps) ≡ Some (length above)
      wrong_is_first is =
          let here : wrong_below after above p ≡ Some (length above) = ap (named above) is in
          ap (or_missed (above ++ p ∷ ps)) (first_is (wrong_below after) above p ps none (ap is_some here) ∙ here)

      empty_is_wrong : (p.length == 0) ≡ true → is_wrong after above p ≡ true
      empty_is_wrong empty = true_from_ne_false _ (λ fine. both_ways (p.length == 0) (well_parts after above p (none_from_false (is_wrong after above p) (length above) fine)).filled empty)

      at_rest : (p.length == 0) ≡ false
          → ((rest : List Piece) → wrong_below after above p ≡ None → Stands (above ++ p ∷ []) p.number (end_of p) rest → first_wrong_piece after (above ++ p ∷ ps) ≡ first_apart (length above + 1) ps rest)
          → (o : Option (List Piece)) → behind_piece p right ≡ o → first_wrong_piece after (above ++ p ∷ ps) ≡ found o
      at_rest some more None is = wrong_is_first (wrong above n e right stands p some is)
      at_rest some more (Some rest) is =
          let follow = follows right p n e rest (filled above n e right stands p some) stands.ordered is in
          more rest (well above n e right stands p some rest follow) (stands_next above n e right stands p some rest follow)

      at_length : (b : Bool) → (p.length == 0) ≡ b
          → ((rest : List Piece) → wrong_below after above p ≡ None → Stands (above ++ p ∷ []) p.number (end_of p) rest → first_wrong_piece after (above ++ p ∷ ps) ≡ first_apart (length above + 1) ps rest)
          → first_wrong_piece after (above ++ p ∷ ps) ≡ elim b [ true ↦ Some (length above) | false ↦ found (behind_piece p right) ]
      at_length true empty more = wrong_is_first (empty_is_wrong empty)
      at_length false some more = at_rest some more (behind_piece p right) refl

  -- ---- from right pieces

  from_ascend : (n e : ℕ) (r : Piece) (rs : List Piece) → ComesBy n e r.number r.start → PiecesAscend (r ∷ rs) → AllByRecursion (IsTrueOf after) (r ∷ rs) → AreFrom n e (r ∷ rs)
  from_ascend n e r [] first ascend said = (first, said.0.filled, tt)
  from_ascend n e r (s ∷ ss) first ascend said = (first, said.0.filled, from_ascend r.number (end_of r) s ss ascend.0 ascend.1 said.1)

  pub all_from : (right : List Piece) → ArePieces after right → AreFrom 0 0 right
  all_from [] are = tt
  all_from (r ∷ rs) are = from_ascend 0 0 r rs (least r.number r.start) are.ascending are.said
    where
      least : (n s : ℕ) → (0 < n) ⊎ ((0 ≡ n) × (0 ≤ s))
      least n s = grind arith

  -- the first wrong piece of a plan is the first that is apart from right pieces, whichever they are
  pub first_wrong_is_apart : (right pieces : List Piece) → ArePieces after right → first_wrong_piece after pieces ≡ first_apart 0 pieces right
  first_wrong_is_apart right pieces are = apart_is_wrong pieces [] 0 0 right refl (record {
    early = λ q. sym (no_early q.number q.start);
    ordered = all_from right are;
    says = λ m q h. said_of_pieces after right are m q;
    covered = λ m q h is. absurd (no_byte_before m q h);
    free = λ m q h. refl;
  })
