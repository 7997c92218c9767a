-- A piece that is followed along right pieces: it says what they say, or they say something else of one of its bytes or of one before it.
use Rattle.std.proofs.Common.{◌≡◌, ℕ, ◌+◌, ◌-◌, ◌<◌, ◌≤◌, ◌⊎◌, inl, inr, ⊎_elim, Bool, true, false, cond, ◌==◌, ◌&&◌, ltb, leb, eqb, List, [], ◌∷◌, Option, Some, None, refl, sym, ap, subst, ◌∙◌, arith, eqb-true}
use Rattle.std.proofs.lemmas.Bool.Decides.{nat_tests}
use Rattle.kfs_model.specs.Run.{Mark}
use Rattle.kfs_model.specs.PlanRow.{Piece, Source}
use Rattle.kfs_model.specs.Plan.{mark_of_source, end_of, ComesBy}
use Rattle.kfs_model.specs.PlanCut.{mark_in_pieces}
use Rattle.kfs_model.proofs.Tape.{below_or_not}
use Rattle.kfs_pieces.specs.PiecesApart.{same_source, source_from, without_front, begins_alike, behind_piece}

-- ---- over plain numbers

abbrev pub IsBefore : (number place other_number other_place : ℕ) → Type 0
IsBefore n p m q = (n < m) ⊎ ((n ≡ m) × (p < q))

pub comes_then : (n p m q r s : ℕ) → (n < m) ⊎ ((n ≡ m) × (p ≤ q)) → (m < r) ⊎ ((m ≡ r) × (q ≤ s)) → (n < r) ⊎ ((n ≡ r) × (p ≤ s))
comes_then n p m q r s h k = grind arith

pub before_then : (n p m q r s : ℕ) → (n < m) ⊎ ((n ≡ m) × (p < q)) → (m < r) ⊎ ((m ≡ r) × (q ≤ s)) → (n < r) ⊎ ((n ≡ r) × (p < s))
before_then n p m q r s h k = grind arith

pub either_side : (n p m q : ℕ) → ((n < m) ⊎ ((n ≡ m) × (p < q))) ⊎ ((m < n) ⊎ ((m ≡ n) × (q ≤ p)))
either_side n p m q = grind arith

pub never_both : (n p m q : ℕ) → (n < m) ⊎ ((n ≡ m) × (p < q)) → (m < n) ⊎ ((m ≡ n) × (q ≤ p)) → ⊥
never_both n p m q h k = grind arith

pub not_yet : (k s e n p : ℕ) → (n < k) ⊎ ((n ≡ k) × (p < s)) → (eqb k n && leb s p && ltb p e) ≡ false
not_yet k s e n p h = grind (arith, nat_tests)

pub no_more : (k s e n p : ℕ) → (k < n) ⊎ ((k ≡ n) × (e ≤ p)) → (eqb k n && leb s p && ltb p e) ≡ false
no_more k s e n p h = grind (arith, nat_tests)

is_inside : (k s e n p : ℕ) → k ≡ n → s ≤ p → p < e → (eqb k n && leb s p && ltb p e) ≡ true
is_inside k s e n p h l u = grind (arith, nat_tests)

same_back : (k s e n p m q : ℕ) → k ≡ n → s ≤ p → (n < m) ⊎ ((n ≡ m) × (p ≤ q)) → (eqb k m && leb p q && ltb q e) ≡ (eqb k m && leb s q && ltb q e)
same_back k s e n p m q a b h = grind (arith, nat_tests)

alike_parts : (a b c d : ℕ) (t : Bool) → (eqb a b && eqb c d && t) ≡ true → (a ≡ b) × ((c ≡ d) × (t ≡ true))
alike_parts a b c d true h = grind (arith, nat_tests)
alike_parts a b c d false h = grind (arith, nat_tests)

-- ---- sources

same_entries : (e f i j : ℕ) → (eqb e f && eqb i j) ≡ true → (e ≡ f) × (i ≡ j)
same_entries e f i j h = grind (arith, nat_tests)

source_is : (a b : Source) → same_source a b ≡ true → a ≡ b
source_is Source.Zero Source.Zero h = refl
source_is Source.Zero (Source.Payload f j) h = cc
source_is (Source.Payload e i) Source.Zero h = cc
source_is (Source.Payload e i) (Source.Payload f j) h = let parts = same_entries e f i j h in λ k. Source.Payload (parts.0 k) (parts.1 k)

same_from : (e f i j : ℕ) → e ≡ f → i ≡ j → (eqb e f && eqb i j) ≡ true
same_from e f i j h k = grind (arith, nat_tests)

is_source : (a b : Source) (distance : ℕ) → ◌≡◌ {A = Option Mark} (Some (mark_of_source a distance)) (Some (mark_of_source b distance)) → same_source a b ≡ true
is_source Source.Zero Source.Zero d h = refl
is_source Source.Zero (Source.Payload f j) d h = cc
is_source (Source.Payload e i) Source.Zero d h = cc
is_source (Source.Payload e i) (Source.Payload f j) d h =
    let entries : e ≡ f = cc in
    let places : i + d ≡ j + d = cc in
    same_from e f i j entries (omega arith)

source_along : (a : Source) (far distance : ℕ) → mark_of_source (source_from far a) distance ≡ mark_of_source a (far + distance)
source_along Source.Zero far distance = refl
source_along (Source.Payload e i) far distance = let sum : i + far + distance ≡ i + (far + distance) = omega arith in ap (Mark.Payload e) sum

-- ---- pieces in order

-- one behind another from this byte on, none of them empty
abbrev pub AreFrom : (number place : ℕ) → List Piece → Type 0
AreFrom n e [] = Unit {0}
AreFrom n e (r ∷ rs) = ComesBy n e r.number r.start × (0 < r.length) × AreFrom r.number (end_of r) rs

-- nothing is said of a byte before the first piece
pub none_said : (m q n e : ℕ) (rs : List Piece) → IsBefore m q n e → AreFrom n e rs → mark_in_pieces rs m q ≡ None
none_said m q n e [] h from = refl
none_said m q n e (r ∷ rs) h from =
    let here : (m < r.number) ⊎ ((m ≡ r.number) × (q < r.start)) = before_then m q n e r.number r.start h from.0 in
    let filled = from.1 in
    let behind : (m < r.number) ⊎ ((m ≡ r.number) × (q < r.start + r.length)) = grind arith in
    ap (λ b. cond b (Some (mark_of_source r.source (q - r.start))) (mark_in_pieces rs m q)) (not_yet r.number r.start (end_of r) m q here)
    ∙ none_said m q r.number (end_of r) rs behind from.2

-- the piece says what the right pieces say, from their first byte on, and the rest is theirs
pub record Follows (p : Piece) (right rest : List Piece) : Type 0 where
  pub said : (d : ℕ) → d < p.length → mark_in_pieces right p.number (p.start + d) ≡ Some (mark_of_source p.source d)
  pub begun : (m q : ℕ) → IsBefore m q p.number p.start → mark_in_pieces right m q ≡ None
  pub from : AreFrom p.number (end_of p) rest
  pub same : (m q : ℕ) → ComesBy p.number (end_of p) m q → mark_in_pieces rest m q ≡ mark_in_pieces right m q

before_same : (m q n p k i : ℕ) → n ≡ k → p ≡ i → (m < n) ⊎ ((m ≡ n) × (q < p)) → (m < k) ⊎ ((m ≡ k) × (q < i))
before_same m q n p k i a b h = grind arith

comes_same : (n p k i m q : ℕ) → n ≡ k → p ≡ i → (n < m) ⊎ ((n ≡ m) × (p ≤ q)) → (k < m) ⊎ ((k ≡ m) × (i ≤ q))
comes_same n p k i m q a b h = grind arith

comes_earlier : (n p i m q : ℕ) → i ≤ p → (n < m) ⊎ ((n ≡ m) × (p ≤ q)) → (n < m) ⊎ ((n ≡ m) × (i ≤ q))
comes_earlier n p i m q a h = grind arith

inside_low : (k s e m q : ℕ) → (eqb k m && leb s q && ltb q e) ≡ true → s ≤ q
inside_low k s e m q h = grind (arith, nat_tests)

module _ (p r : Piece) (rs : List Piece) (number : p.number ≡ r.number) (start : p.start ≡ r.start) (source : p.source ≡ r.source) (ordered : AreFrom r.number (end_of r) rs) where
  in_first : (d : ℕ) → d < r.length → mark_in_pieces (r ∷ rs) p.number (p.start + d) ≡ Some (mark_of_source p.source d)
  in_first d h =
      let back : p.start + d - r.start ≡ d = omega arith in
      ap (λ b. cond b (Some (mark_of_source r.source (p.start + d - r.start))) (mark_in_pieces rs p.number (p.start + d))) (is_inside r.number r.start (end_of r) p.number (p.start + d) (sym number) (omega arith) (omega arith))
      ∙ (λ i. Some (mark_of_source (sym source i) (back i)))

  behind_first : (m q : ℕ) → ComesBy r.number (end_of r) m q → mark_in_pieces (r ∷ rs) m q ≡ mark_in_pieces rs m q
  behind_first m q h = ap (λ b. cond b (Some (mark_of_source r.source (q - r.start))) (mark_in_pieces rs m q)) (no_more r.number r.start (end_of r) m q h)

  before_first : 0 < r.length → (m q : ℕ) → IsBefore m q p.number p.start → mark_in_pieces (r ∷ rs) m q ≡ None
  before_first filled m q h = none_said m q r.number r.start (r ∷ rs) (before_same m q p.number p.start r.number r.start number start h) (inr (refl, (let same : r.start ≤ r.start = omega arith in same)), filled, ordered)

  module _ (shorter : p.length < r.length) where
    abbrev back : Piece
    back = without_front p.length r

    end_is : end_of r ≡ end_of back
    end_is = let e : r.start + r.length ≡ r.start + p.length + (r.length - p.length) = omega arith in e

    back_value : (m q : ℕ) → (b : Bool) → (eqb r.number m && leb (r.start + p.length) q && ltb q (end_of r)) ≡ b
        → cond b (Some (mark_of_source back.source (q - back.start))) (mark_in_pieces rs m q) ≡ cond b (Some (mark_of_source r.source (q - r.start))) (mark_in_pieces rs m q)
    back_value m q true e =
        let low = inside_low r.number (r.start + p.length) (end_of r) m q e in
        let far : p.length + (q - (r.start + p.length)) ≡ q - r.start = omega arith in
        ap Some (source_along r.source p.length (q - back.start) ∙ ap (mark_of_source r.source) far)
    back_value m q false e = refl

    back_same : (m q : ℕ) → ComesBy p.number (end_of p) m q → mark_in_pieces (back ∷ rs) m q ≡ mark_in_pieces (r ∷ rs) m q
    back_same m q h =
        ap (λ e. cond (eqb r.number m && leb (r.start + p.length) q && ltb q e) (Some (mark_of_source back.source (q - back.start))) (mark_in_pieces rs m q)) (sym end_is)
        ∙ back_value m q (eqb r.number m && leb (r.start + p.length) q && ltb q (end_of r)) refl
        ∙ ap (λ b. cond b (Some (mark_of_source r.source (q - r.start))) (mark_in_pieces rs m q))
        (same_back r.number r.start (end_of r) p.number (r.start + p.length) m q (sym number) (omega arith)
        (comes_same p.number (end_of p) p.number (r.start + p.length) m q refl (omega arith) h))

    follows_shorter : 0 < p.length → Follows p (r ∷ rs) (back ∷ rs)
    follows_shorter filled = record {
      said = λ d h. in_first d (omega arith);
      begun = before_first (omega arith);
      from = (inr (number, (let e : p.start + p.length ≤ r.start + p.length = omega arith in e)), (let f : 0 < r.length - p.length = omega arith in f), subst (λ e. AreFrom r.number e rs) end_is ordered);
      same = back_same;
    }

  follows_equal : 0 < p.length → p.length ≡ r.length → Follows p (r ∷ rs) rs
  follows_equal filled long =
      let ends : end_of r ≡ end_of p = omega arith in
      record {
        said = λ d h. in_first d (omega arith);
        begun = before_first (omega arith);
        from = subst (λ e. AreFrom p.number e rs) ends (subst (λ n. AreFrom n (end_of r) rs) (sym number) ordered);
        same = λ m q h. sym (behind_first m q (comes_same p.number (end_of p) r.number (end_of r) m q number (sym ends) h));
      }

  follows_longer : (rest : List Piece) → 0 < r.length → r.length < p.length → Follows (without_front r.length p) rs rest → Follows p (r ∷ rs) rest
  follows_longer rest filled longer more =
      let ends : p.start + r.length + (p.length - r.length) ≡ p.start + p.length = omega arith in
      record {
        said = λ d h. ⊎_elim
            (λ (inside : d < r.length). in_first d inside)
            (λ (behind : r.length ≤ d).
            let there : p.start + r.length + (d - r.length) ≡ p.start + d = omega arith in
            let far : r.length + (d - r.length) ≡ d = omega arith in
            behind_first p.number (p.start + d) (inr (sym number, (let e : r.start + r.length ≤ p.start + d = omega arith in e)))
            ∙ ap (mark_in_pieces rs p.number) (sym there)
            ∙ more.said (d - r.length) (omega arith)
            ∙ ap Some (source_along p.source r.length (d - r.length) ∙ ap (mark_of_source p.source) far))
            (below_or_not d r.length);
        begun = before_first filled;
        from = subst (λ e. AreFrom p.number e rest) ends more.from;
        same = λ m q h.
            more.same m q (comes_same p.number (p.start + p.length) p.number (p.start + r.length + (p.length - r.length)) m q refl (sym ends) h)
            ∙ sym (behind_first m q (comes_same p.number (r.start + r.length) r.number (end_of r) m q number refl (comes_earlier p.number (p.start + p.length) (r.start + r.length) m q (omega arith) h)));
      }

-- what a cut of right pieces answers, case by case
longer_still : (a b : ℕ) → ltb a b ≡ false → eqb a b ≡ false → b < a
longer_still a b h i = grind (arith, nat_tests)

shorter_is : (a b : ℕ) → ltb a b ≡ true → a < b
shorter_is a b h = grind (arith, nat_tests)

pub follows : (right : List Piece) (p : Piece) (n e : ℕ) (rest : List Piece) → 0 < p.length → AreFrom n e right → behind_piece p right ≡ Some rest → Follows p right rest
unfolding behind_piece
follows [] p n e rest filled ordered is = cc
follows (r ∷ rs) p n e rest filled ordered is =
    at (begins_alike p r) refl (ltb p.length r.length) refl (p.length == r.length) refl
    (λ longer is. follows rs (without_front r.length p) r.number (end_of r) rest (let f : 0 < p.length - r.length = omega arith in f) ordered.2 is) is
  where
    at : (a : Bool) → begins_alike p r ≡ a → (b : Bool) → ltb p.length r.length ≡ b → (c : Bool) → (p.length == r.length) ≡ c
        → (r.length < p.length → behind_piece (without_front r.length p) rs ≡ Some rest → Follows (without_front r.length p) rs rest)
        → ◌≡◌ {A = Option (List Piece)} (elim a [ false ↦ None | true ↦ elim b [ true ↦ Some (without_front p.length r ∷ rs) | false ↦ elim c [ true ↦ Some rs | false ↦ behind_piece (without_front r.length p) rs ] ] ]) (Some rest)
        → Follows p (r ∷ rs) rest
    at false alike b short c same more is = cc
    at true alike true short c same more is =
        let parts = alike_parts p.number r.number p.start r.start (same_source p.source r.source) alike in
        let made : without_front p.length r ∷ rs ≡ rest = cc in
        subst (Follows p (r ∷ rs)) made (follows_shorter p r rs parts.0 parts.1.0 (source_is p.source r.source parts.1.1) ordered.2 (shorter_is p.length r.length short) filled)
    at true alike false short true same more is =
        let parts = alike_parts p.number r.number p.start r.start (same_source p.source r.source) alike in
        let made : rs ≡ rest = cc in
        subst (Follows p (r ∷ rs)) made (follows_equal p r rs parts.0 parts.1.0 (source_is p.source r.source parts.1.1) ordered.2 filled (eqb-true p.length r.length same))
    at true alike false short false same more is =
        let parts = alike_parts p.number r.number p.start r.start (same_source p.source r.source) alike in
        let longer = longer_still p.length r.length short same in
        follows_longer p r rs parts.0 parts.1.0 (source_is p.source r.source parts.1.1) ordered.2 rest ordered.1 longer (more longer is)

-- ---- a piece that isn't what the right pieces begin with

-- a byte of the piece of which something else is said, or a byte before it of which something is said
abbrev pub Differs : (n e : ℕ) → Piece → List Piece → Type 0
Differs n e p right =
    ((d : ℕ) × (d < p.length) × (mark_in_pieces right p.number (p.start + d) ≡ Some (mark_of_source p.source d) → ⊥))
    ⊎ ((m : ℕ) × (q : ℕ) × (mark : Mark) × ComesBy n e m q × IsBefore m q p.number p.start × (mark_in_pieces right m q ≡ Some mark))

one_of_three : (n p m q : ℕ) → ((n < m) ⊎ ((n ≡ m) × (p < q))) ⊎ (((m < n) ⊎ ((m ≡ n) × (q < p))) ⊎ ((n ≡ m) × (p ≡ q)))
one_of_three n p m q = grind arith

alike_from : (a b c d : ℕ) (t : Bool) → a ≡ b → c ≡ d → t ≡ true → (eqb a b && eqb c d && t) ≡ true
alike_from a b c d true h i j = grind (arith, nat_tests)
alike_from a b c d false h i j = cc

pub first_said : (r : Piece) (rs : List Piece) → 0 < r.length → mark_in_pieces (r ∷ rs) r.number r.start ≡ Some (mark_of_source r.source (r.start - r.start))
first_said r rs filled = ap (λ b. cond b (Some (mark_of_source r.source (r.start - r.start))) (mark_in_pieces rs r.number r.start)) (is_inside r.number r.start (end_of r) r.number r.start refl (omega arith) (omega arith))

first_differs : (p r : Piece) (rs : List Piece) (n e : ℕ) → 0 < p.length → AreFrom n e (r ∷ rs) → begins_alike p r ≡ false → Differs n e p (r ∷ rs)
first_differs p r rs n e filled ordered alike = ⊎_elim
    (λ (h : IsBefore r.number r.start p.number p.start). inr (r.number, r.start, mark_of_source r.source (r.start - r.start), ordered.0, h, first_said r rs ordered.1))
    (λ h. ⊎_elim
    (λ (h : IsBefore p.number p.start r.number r.start). inl (
      0,
      filled,
      λ is.
          let place : p.start + 0 ≡ p.start = omega arith in
          let none = none_said p.number p.start r.number r.start (r ∷ rs) h (inr (refl, (let same : r.start ≤ r.start = omega arith in same)), ordered.1, ordered.2) in
          let both : ◌≡◌ {A = Option Mark} None (Some (mark_of_source p.source 0)) = sym none ∙ ap (mark_in_pieces (r ∷ rs) p.number) (sym place) ∙ is in
          cc,
    ))
    (λ (same : (r.number ≡ p.number) × (r.start ≡ p.start)). inl (
      0,
      filled,
      λ is.
          let place : r.start ≡ p.start + 0 = omega arith in
          let zero_far : r.start - r.start ≡ 0 = omega arith in
          let both : ◌≡◌ {A = Option Mark} (Some (mark_of_source r.source 0)) (Some (mark_of_source p.source 0)) =
          ap (λ d. Some (mark_of_source r.source d)) (sym zero_far) ∙ sym (first_said r rs ordered.1) ∙ (λ i. mark_in_pieces (r ∷ rs) (same.0 i) (place i)) ∙ is in
          apart (begins_alike p r) (alike_from p.number r.number p.start r.start (same_source p.source r.source) (sym same.0) (sym same.1) (is_source p.source r.source 0 (sym both))) alike,
    ))
    h)
    (one_of_three r.number r.start p.number p.start)
  where
    apart : (b : Bool) → b ≡ true → b ≡ false → ⊥
    apart true h i = cc
    apart false h i = cc

later_differs : (p r : Piece) (rs : List Piece) (n e : ℕ) → p.number ≡ r.number → p.start ≡ r.start → 0 < r.length → r.length < p.length
    → Differs r.number (end_of r) (without_front r.length p) rs → Differs n e p (r ∷ rs)
later_differs p r rs n e number start filled longer differs = ⊎_elim
    (λ (one : (d : ℕ) × (d < p.length - r.length) × (mark_in_pieces rs p.number (p.start + r.length + d) ≡ Some (mark_of_source (source_from r.length p.source) d) → ⊥)).
    let (d, below, other) = one in
    let within : r.length + d < p.length = omega arith in
    inl (
      r.length + d,
      within,
      λ is.
          let sum : p.start + r.length + d ≡ p.start + (r.length + d) = omega arith in
          let behind : ComesBy r.number (end_of r) p.number (p.start + (r.length + d)) = inr (sym number, (let e : r.start + r.length ≤ p.start + (r.length + d) = omega arith in e)) in
          let skipped : mark_in_pieces (r ∷ rs) p.number (p.start + (r.length + d)) ≡ mark_in_pieces rs p.number (p.start + (r.length + d)) =
          ap (λ b. cond b (Some (mark_of_source r.source (p.start + (r.length + d) - r.start))) (mark_in_pieces rs p.number (p.start + (r.length + d)))) (no_more r.number r.start (end_of r) p.number (p.start + (r.length + d)) behind) in
          other (ap (mark_in_pieces rs p.number) sum ∙ sym skipped ∙ is ∙ ap Some (sym (source_along p.source r.length d))),
    ))
    (λ (two : (m : ℕ) × (q : ℕ) × (mark : Mark) × ComesBy r.number (end_of r) m q × IsBefore m q p.number (p.start + r.length) × (mark_in_pieces rs m q ≡ Some mark)).
    let (m, q, mark, comes, before, said) = two in
    let ends : p.start + r.length ≡ r.start + r.length = omega arith in
    absurd (never_both m q r.number (end_of r) (before_same m q p.number (p.start + r.length) r.number (r.start + r.length) number ends before) comes))
    differs

pub differs : (right : List Piece) (p : Piece) (n e : ℕ) → 0 < p.length → AreFrom n e right → behind_piece p right ≡ None → Differs n e p right
unfolding behind_piece
differs [] p n e filled ordered is = inl (0, filled, λ h. cc)
differs (r ∷ rs) p n e filled ordered is =
    at (begins_alike p r) refl (ltb p.length r.length) refl (p.length == r.length) refl
    (λ longer is. differs rs (without_front r.length p) r.number (end_of r) (let f : 0 < p.length - r.length = omega arith in f) ordered.2 is) is
  where
    at : (a : Bool) → begins_alike p r ≡ a → (b : Bool) → ltb p.length r.length ≡ b → (c : Bool) → (p.length == r.length) ≡ c
        → (r.length < p.length → behind_piece (without_front r.length p) rs ≡ None → Differs r.number (end_of r) (without_front r.length p) rs)
        → ◌≡◌ {A = Option (List Piece)} (elim a [ false ↦ None | true ↦ elim b [ true ↦ Some (without_front p.length r ∷ rs) | false ↦ elim c [ true ↦ Some rs | false ↦ behind_piece (without_front r.length p) rs ] ] ]) None
        → Differs n e p (r ∷ rs)
    at false alike b short c same more is = first_differs p r rs n e filled ordered alike
    at true alike true short c same more is = cc
    at true alike false short true same more is = cc
    at true alike false short false same more is =
        let parts = alike_parts p.number r.number p.start r.start (same_source p.source r.source) alike in
        let longer = longer_still p.length r.length short same in
        later_differs p r rs n e parts.0 parts.1.0 ordered.1 longer (more longer is)
