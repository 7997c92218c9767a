-- Pieces put over bytes of a file, each over those behind it.
use Rattle.std.proofs.Common.{append_assoc, ◌≡◌, ℕ, map, ◌+◌, ◌-◌, ◌<◌, ◌≤◌, ◌++◌, ◌⊎◌, ◌&&◌, inl, inr, subst, min, Bool, true, false, cond, ltb, leb, eqb, List, [], ◌∷◌, length, take, drop, Option, Some, None, refl, sym, ap, ◌∙◌, ⊎_elim, arith}
use Rattle.std.specs.Prelude.{slice_index, IfSome}
use Rattle.std.specs.Borrow.{Bor}
use Rattle.std.proofs.Math.ListN.{get_or, get_or-append}
use Rattle.std.proofs.lemmas.Bool.{cases_lt}
use Rattle.std.proofs.lemmas.Bool.Decides.{nat_tests}
use Rattle.std.proofs.lemmas.List.{get_or-take, get_or-drop, get_or-append_right, length-take-le, append-nil}
use borrow.Rule.Slice.PartMut.{put_mid}
use Rattle.kfs_model.specs.Entry.{Entry}
use Rattle.kfs_model.specs.Limits.{block_size}
use Rattle.kfs_model.specs.Plan.{covers, end_of, mark_of_source}
use Rattle.kfs_model.specs.PlanCut.{mark_in_pieces}
use Rattle.kfs_model.specs.PlanRow.{Piece}
use Rattle.kfs_model.specs.Run.{Mark, byte_of}
use Rattle.kfs_model.specs.Tree.{Tree}
use Rattle.kfs_types.specs.Views.{piece_of}
use Rattle.kfs_types.specs.declared.plan.Piece.{Piece as CodePiece}
use Rattle.kfs_desk.specs.Fill.Bytes.{byte_over, AreGivenBy, ArePut, ArePutOnAny}

module _ (before : Tree ℕ) (entries : List Entry) where
  abbrev byte_said : (old : ℕ) → Option Mark → ℕ
  byte_said old said = elim said as (λ _. ℕ) [ None ↦ old | Some mark ↦ byte_of before entries mark ]

  over_two : (b : Bool) (mark : Mark) (said : Option Mark) (old : ℕ) → byte_said old (cond b (Some mark) said) ≡ byte_said (byte_said old said) (cond b (Some mark) None)
  over_two true mark said old = refl
  over_two false mark said old = refl

  -- the first piece goes over what the others made
  over_first : (p : Piece) (ps : List Piece) (n q old : ℕ) → byte_over before entries (p ∷ ps) n q old ≡ byte_over before entries (p ∷ []) n q (byte_over before entries ps n q old)
  over_first p ps n q old = over_two (covers n q p) (mark_of_source p.source (q - p.start)) (mark_in_pieces ps n q) old

  over_covered : (p : Piece) (n q old distance : ℕ) → covers n q p ≡ true → q - p.start ≡ distance → byte_over before entries (p ∷ []) n q old ≡ byte_of before entries (mark_of_source p.source distance)
  over_covered p n q old distance is far = λ i. byte_said old (cond (is i) (Some (mark_of_source p.source (far i))) None)

  over_other : (p : Piece) (n q old : ℕ) → covers n q p ≡ false → byte_over before entries (p ∷ []) n q old ≡ old
  over_other p n q old is = λ i. byte_said old (cond (is i) (Some (mark_of_source p.source (q - p.start))) None)

pub put_nothing : (entries : List Entry) (n start : ℕ) (bytes : List ℕ) → ArePut entries [] n start bytes bytes
put_nothing entries n start bytes before k below = refl

pub put_first : (entries : List Entry) (p : Piece) (ps : List Piece) (n start : ℕ) (old middle new : List ℕ) → length middle ≡ length old
    → ArePut entries ps n start old middle → ArePut entries (p ∷ []) n start middle new → ArePut entries (p ∷ ps) n start old new
put_first entries p ps n start old middle new long behind first before k below =
    first before k (omega (arith, long, below))
    ∙ ap (byte_over before entries (p ∷ []) n (start + k)) (behind before k below)
    ∙ sym (over_first before entries p ps n (start + k) (slice_index old k))

-- the pieces that aren't left are put already
pub record ArePutBehind (entries : List Entry) (pieces left : List CodePiece) (n start : ℕ) (old new : List ℕ) : Type 0 where
  pub behind : List CodePiece
  pub all : left ++ behind ≡ pieces
  pub put : ArePut entries (map piece_of behind) n start old new

module _ (entries : List Entry) (pieces : List CodePiece) (n start : ℕ) (old : List ℕ) where
  pub none_behind : (left : List CodePiece) → left ≡ pieces → ArePutBehind entries pieces left n start old old
  none_behind left is = record { behind = []; all = append-nil left ∙ is; put = put_nothing entries n start old }

  pub last_behind : (left rest : List CodePiece) (p : CodePiece) (middle new : List ℕ) → left ≡ rest ++ p ∷ [] → length middle ≡ length old
      → ArePut entries (piece_of p ∷ []) n start middle new → ArePutBehind entries pieces left n start old middle → ArePutBehind entries pieces rest n start old new
  last_behind left rest p middle new is long put so_far = record {
    behind = p ∷ so_far.behind;
    all = sym (append_assoc rest (p ∷ []) so_far.behind) ∙ ap (λ front. front ++ so_far.behind) (sym is) ∙ so_far.all;
    put = put_first entries (piece_of p) (map piece_of so_far.behind) n start old middle new long so_far.put put;
  }

  pub all_behind : (left : List CodePiece) (new : List ℕ) → left ≡ [] → ArePutBehind entries pieces left n start old new → ArePut entries (map piece_of pieces) n start old new
  all_behind left new none so_far =
      subst (λ ps. ArePut entries (map piece_of ps) n start old new) (ap (λ front. front ++ so_far.behind) (sym none) ∙ so_far.all) so_far.put

-- ---- a part of some bytes put anew

module _ (first count : ℕ) (old part : List ℕ) (within : first + count ≤ length old) (full : length part ≡ count) where
  front : length (take first old) ≡ first
  front = length-take-le first old (omega (arith, within))

  kept_before : (k : ℕ) → k < first → get_or (put_mid first count old part) k 0 ≡ get_or old k 0
  kept_before k less = get_or-append (take first old) (part ++ drop count (drop first old)) 0 k (omega (arith, less, front)) ∙ get_or-take first old k 0 less

  put_inside : (k : ℕ) → first ≤ k → k < first + count → get_or (put_mid first count old part) k 0 ≡ get_or part (k - first) 0
  put_inside k from below =
      get_or-append_right (take first old) (part ++ drop count (drop first old)) first k 0 front from
      ∙ get_or-append part (drop count (drop first old)) 0 (k - first) (omega (arith, from, below, full))

  kept_behind : (k : ℕ) → first + count ≤ k → get_or (put_mid first count old part) k 0 ≡ get_or old k 0
  kept_behind k from =
      get_or-append_right (take first old) (part ++ drop count (drop first old)) first k 0 front (omega (arith, from))
      ∙ get_or-append_right part (drop count (drop first old)) count (k - first) 0 full (omega (arith, from))
      ∙ get_or-drop count (drop first old) (k - first - count) 0
      ∙ get_or-drop first old (count + (k - first - count)) 0
      ∙ ap (λ n. get_or old n 0) (let same : first + (count + (k - first - count)) ≡ k = omega (arith, from) in same)

-- ---- a piece put over the part that it covers

inside : (m s e n q : ℕ) → m ≡ n → s ≤ q → q < e → (eqb m n && leb s q && ltb q e) ≡ true
inside m s e n q same from below = grind (arith, nat_tests)

apart : (m s e n q : ℕ) → (q < s) ⊎ (e ≤ q) → (eqb m n && leb s q && ltb q e) ≡ false
apart m s e n q beside = grind (arith, nat_tests)

pub put_part : (entries : List Entry) (p : Piece) (n start : ℕ) (old part : List ℕ) (first distance count width : ℕ)
    → p.number ≡ n → first ≡ p.start - start → distance ≡ start - p.start → first < length old → count ≡ min (p.length - distance) (length old - first)
    → width ≡ count → length part ≡ count
    → ((before : Tree ℕ) (k : ℕ) → k < length part → slice_index part k ≡ byte_of before entries (mark_of_source p.source (distance + k)))
    → ArePut entries (p ∷ []) n start old (put_mid first width old part)
put_part entries p n start old part first distance count width number begins far room many wide full each before k below = ⊎_elim
    (λ (less : k < first).
    at (kept_before first width old part within whole k less) (over_other before entries p n (start + k) (get_or old k 0) (apart p.number p.start (end_of p) n (start + k) (inl (omega (arith, less, begins))))))
    (λ (from : first ≤ k).
    ⊎_elim
    (λ (in_part : k < first + count).
    put_inside first width old part within whole k from (omega (arith, in_part, wide))
    ∙ each before (k - first) (omega (arith, from, in_part, full))
    ∙ sym (over_covered before entries p n (start + k) (get_or old k 0) (distance + (k - first))
    (inside p.number p.start (end_of p) n (start + k) number (omega (arith, from, begins)) (let ends : start + k < p.start + p.length = omega (arith, from, in_part, begins, far, many) in ends))
    (omega (arith, from, begins, far))))
    (λ (past : first + count ≤ k).
    at (kept_behind first width old part within whole k (omega (arith, past, wide)))
    (over_other before entries p n (start + k) (get_or old k 0) (apart p.number p.start (end_of p) n (start + k) (inr (let ends : p.start + p.length ≤ start + k = omega (arith, past, below, begins, far, many, room) in ends)))))
    (cases_lt k (first + count)))
    (cases_lt k first)
  where
    within : first + width ≤ length old
    within = omega (arith, wide, many, room)

    whole : length part ≡ width
    whole = full ∙ sym wide

    at : {x y z : ℕ} → x ≡ y → z ≡ y → x ≡ z
    at a b = a ∙ sym b

-- ---- a piece that covers all

pub put_on_any : (entries : List Entry) (p : Piece) (ps : List Piece) (n start : ℕ) (bytes : List ℕ) (distance : ℕ)
    → p.number ≡ n → p.start ≤ start → distance ≡ start - p.start → start + length bytes ≤ end_of p
    → ((before : Tree ℕ) (k : ℕ) → k < length bytes → slice_index bytes k ≡ byte_of before entries (mark_of_source p.source (distance + k)))
    → ArePutOnAny entries (p ∷ ps) n start bytes
put_on_any entries p ps n start bytes distance number begins far ends each before k old below =
    each before k below
    ∙ sym (over_first before entries p ps n (start + k) old
    ∙ over_covered before entries p n (start + k) (byte_over before entries ps n (start + k) old) (distance + k)
    (inside p.number p.start (end_of p) n (start + k) number (omega (arith, begins)) (omega (arith, below, ends)))
    (omega (arith, begins, far)))

-- the first of the pieces covers all
pub put_by_first : (entries : List Entry) (pieces : List CodePiece) (first : CodePiece) (n start : ℕ) (bytes : List ℕ) (distance : ℕ) → 0 < length pieces → first ≡ get_or pieces 0 first
    → first.number ≡ n → first.start ≤ start → distance ≡ start - first.start → start + length bytes ≤ first.start + first.len
    → ((before : Tree ℕ) (k : ℕ) → k < length bytes → slice_index bytes k ≡ byte_of before entries (mark_of_source (piece_of first).source (distance + k)))
    → ArePutOnAny entries (map piece_of pieces) n start bytes
put_by_first entries [] first n start bytes distance some is number begins far ends each = absurd (omega (arith, some))
put_by_first entries (p ∷ ps) first n start bytes distance some is number begins far ends each =
    subst (λ q. ArePutOnAny entries (piece_of q ∷ map piece_of ps) n start bytes) is (put_on_any entries (piece_of first) (map piece_of ps) n start bytes distance number begins far ends each)

pub put_where_found : (entries : List Entry) (pieces : List CodePiece) (first : CodePiece) (n start distance : ℕ) (found : Option (Bor (List ℕ))) → 0 < length pieces → first ≡ get_or pieces 0 first
    → first.number ≡ n → first.start ≤ start → distance ≡ start - first.start → start + block_size ≤ first.start + first.len
    → IfSome found (λ bytes. length bytes.now ≡ block_size) → IfSome found (λ bytes. AreGivenBy entries (piece_of first).source distance bytes.now)
    → IfSome found (λ bytes. ArePutOnAny entries (map piece_of pieces) n start bytes.now)
put_where_found entries pieces first n start distance None some is number begins far ends whole given = tt
put_where_found entries pieces first n start distance (Some bytes) some is number begins far ends whole given = put_by_first entries pieces first n start bytes.now distance some is number begins far (omega (arith, whole, ends)) given
