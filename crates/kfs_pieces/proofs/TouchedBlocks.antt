-- The blocks that a file's pieces touch are those that are written.
use Rattle.std.proofs.Common.{◌≡◌, ℕ, ◌+◌, ◌-◌, ◌*◌, ◌/◌, ◌%◌, ◌<◌, ◌≤◌, ◌⊎◌, inl, inr, ⊎_elim, max, Bool, true, false, cond, not, ◌==◌, ◌&&◌, ◌||◌, ltb, leb, eqb, List, [], ◌∷◌, ◌++◌, length, map, filter, get_or, Option, Some, None, refl, sym, ap, subst, ◌∙◌, arith}
use Rattle.std.specs.List.{list_any, AllByRecursion}
use Rattle.std.proofs.lemmas.Bool.{eq-eqb, ne_eqb, not-true, or_cases, or_left, or_right, both_ways}
use Rattle.std.proofs.Math.Bool.{or-false}
use Rattle.std.proofs.lemmas.Bool.Decides.{nat_tests}
use Rattle.std.proofs.lemmas.List.Folds.{list_any-append}
use Rattle.kfs_model.specs.Run.{Mark, Zero}
use Rattle.kfs_model.specs.PlanRow.{Piece, Source}
use Rattle.kfs_model.specs.Plan.{end_of}
use Rattle.kfs_model.specs.Placement.{is_zero, is_payload, is_written, block_count, blocks_of}
use Rattle.kfs_pieces.specs.TouchedBlocks.{BlockInterval, counted, is_zero_source, goes_on, block_of, touches}
use Rattle.kfs_model.proofs.Tape.{below_or_not}
use Rattle.kfs_pieces.proofs.BlockCounts.{differ, has_block, InOrder, TurnsAt, block_at, numbered, passes, file_needs, touched_is_written, written_is_touched}

-- ---- the pieces of one file

abbrev pub part_at : List Piece → (place : ℕ) → Option Source
part_at [] q = None
part_at (r ∷ rs) q = cond (leb r.start q && ltb q (end_of r)) (Some r.source) (part_at rs q)

abbrev pub is_zero_part : Option Source → Bool
is_zero_part None = false
is_zero_part (Some source) = is_zero_source source

abbrev pub is_payload_part : Option Source → Bool
is_payload_part None = false
is_payload_part (Some source) = not (is_zero_source source)

-- one behind another from a place on, none empty, below the size
abbrev pub AreParts : (size from : ℕ) → List Piece → Type 0
AreParts size f [] = f ≤ size
AreParts size f (r ∷ rs) = (f ≤ r.start) × (0 < r.length) × AreParts size (end_of r) rs

inside_part : (s e q : ℕ) → s ≤ q → q < e → (leb s q && ltb q e) ≡ true
inside_part s e q h k = grind (arith, nat_tests)

before_part : (s e q : ℕ) → q < s → (leb s q && ltb q e) ≡ false
before_part s e q h = grind (arith, nat_tests)

behind_part : (s e q : ℕ) → e ≤ q → (leb s q && ltb q e) ≡ false
behind_part s e q h = grind (arith, nat_tests)

part_before : (size f q : ℕ) (rs : List Piece) → q < f → AreParts size f rs → part_at rs q ≡ None
part_before size f q [] h parts = refl
part_before size f q (r ∷ rs) h parts =
    let low = parts.0 in
    let filled = parts.1 in
    ap (λ b. cond b (Some r.source) (part_at rs q)) (before_part r.start (end_of r) q (omega arith)) ∙ part_before size (end_of r) q rs (omega arith) parts.2

part_in : (r : Piece) (rs : List Piece) (q : ℕ) → r.start ≤ q → q < end_of r → part_at (r ∷ rs) q ≡ Some r.source
part_in r rs q h k = ap (λ b. cond b (Some r.source) (part_at rs q)) (inside_part r.start (end_of r) q h k)

part_behind : (r : Piece) (rs : List Piece) (q : ℕ) → end_of r ≤ q → part_at (r ∷ rs) q ≡ part_at rs q
part_behind r rs q h = ap (λ b. cond b (Some r.source) (part_at rs q)) (behind_part r.start (end_of r) q h)

ends_low : (size f : ℕ) (rs : List Piece) → AreParts size f rs → f ≤ size
ends_low size f [] parts = parts
ends_low size f (r ∷ rs) parts = let low = parts.0 in let rest = ends_low size (end_of r) rs parts.2 in omega arith

at_or_behind : (f s : ℕ) → f ≤ s → 1 ≤ s → (f ≤ s - 1) ⊎ (s ≡ f)
at_or_behind f s h i = grind arith

pub before_or_same : (e s : ℕ) → e ≤ s → (e < s) ⊎ (s ≡ e)
before_or_same e s h = grind arith

other_source : (a b : Bool) → (a && b) ≡ false → b ≡ true → a ≡ false
other_source true b h i = sym i ∙ h
other_source false b h i = refl

and_false : (a b : Bool) → b ≡ false → (a && b) ≡ false
and_false true b h = h
and_false false b h = refl

not_le : (a b : ℕ) → b < a → leb a b ≡ false
not_le a b h = grind (arith, nat_tests)

le_same : (n : ℕ) → n ≤ n
le_same n = omega arith

neither : (a b c d : ℕ) → (eqb a b || eqb c d) ≡ false → (a ≡ b → ⊥) × (c ≡ d → ⊥)
neither a b c d h = ((λ e. both_ways (eqb a b || eqb c d) h (or_left (eqb a b) (eqb c d) (eq-eqb a b e))), (λ e. both_ways (eqb a b || eqb c d) h (or_right (eqb a b) (eqb c d) (eq-eqb c d e))))

none_of : (a b c d : ℕ) (t : Bool) → (eqb a b || leb c d || t) ≡ false → (a ≡ b → ⊥) × (d < c) × (t ≡ false)
none_of a b c d true h = grind (arith, nat_tests)
none_of a b c d false h = grind (arith, nat_tests)

-- the parts say what the marks are from a place on; zero bytes before it ended at `until`
pub record Classes (marks : List Mark) (f until : ℕ) (rs : List Piece) : Type 0 where
  pub parts : AreParts (length marks) f rs
  pub payload : (q : ℕ) → f ≤ q → q < length marks → is_payload (get_or marks q Zero) ≡ is_payload_part (part_at rs q)
  pub zero : (q : ℕ) → f ≤ q → q < length marks → is_zero (get_or marks q Zero) ≡ is_zero_part (part_at rs q)
  pub before : 1 ≤ f → is_zero (get_or marks (f - 1) Zero) ≡ eqb until f
  pub until_is : (until ≡ 0) ⊎ (until ≡ f)

module _ (marks : List Mark) (k : ℕ) where
  abbrev Turn : ℕ → Type 0
  Turn q = (4096 * k < q) × (q < 4096 * k + 4096) × (q < length marks) × TurnsAt marks q

  abbrev Pay : ℕ → Type 0
  Pay q = (4096 * k ≤ q) × (q < 4096 * k + 4096) × (q < length marks) × (is_payload (get_or marks q Zero) ≡ true)

  -- from a place on; a turn at that place itself isn't counted where zero bytes ended there
  abbrev TouchedFrom : (f until : ℕ) → Type 0
  TouchedFrom f until = ((q : ℕ) × (f ≤ q) × Pay q) ⊎ ((q : ℕ) × (f ≤ q) × (q ≡ f → until ≡ f → ⊥) × Turn q)

  has_from : (f l : ℕ) → (leb f k && leb k l) ≡ true → (f ≤ k) × (k ≤ l)
  has_from f l h = grind (arith, nat_tests)

  has_to : (f l : ℕ) → f ≤ k → k ≤ l → (leb f k && leb k l) ≡ true
  has_to f l h i = grind (arith, nat_tests)

  one_of : (c : Bool) (x : BlockInterval) → list_any (has_block k) (cond c [] (x ∷ [])) ≡ true → (c ≡ false) × (has_block k x ≡ true)
  one_of true x h = cc
  one_of false x h = (refl, sym (or-false (has_block k x)) ∙ h)

  later_touched : (f e until : ℕ) → f < e → TouchedFrom e until → (other : ℕ) → TouchedFrom f other
  later_touched f e until h touched other = ⊎_elim
      (λ (one : (q : ℕ) × (e ≤ q) × Pay q). let (q, low, pay) = one in inl (q, (let a : f ≤ q = omega arith in a), pay))
      (λ (two : (q : ℕ) × (e ≤ q) × (q ≡ e → until ≡ e → ⊥) × Turn q). let (q, low, new, turn) = two in inr (q, (let a : f ≤ q = omega arith in a), (λ same u. let b : ⊥ = omega arith in b), turn))
      touched

  differs_at : (q : ℕ) (a b : Bool) → is_zero (get_or marks (q - 1) Zero) ≡ a → is_zero (get_or marks q Zero) ≡ b → differ a b ≡ true → TurnsAt marks q
  differs_at q a b x y d = (λ i. differ (x i) (y i)) ∙ d

  module _ (f until : ℕ) (r : Piece) (rs : List Piece) (is : Classes marks f until (r ∷ rs)) where
    low : f ≤ r.start
    low = is.parts.0

    filled : 0 < r.length
    filled = is.parts.1

    ends : end_of r ≤ length marks
    ends = ends_low (length marks) (end_of r) rs is.parts.2

    pub zero_in : (q : ℕ) → r.start ≤ q → q < end_of r → is_zero (get_or marks q Zero) ≡ is_zero_source r.source
    zero_in q h i = let l = low in let e = ends in is.zero q (omega arith) (omega arith) ∙ ap is_zero_part (part_in r rs q h i)

    payload_in : (q : ℕ) → r.start ≤ q → q < end_of r → is_payload (get_or marks q Zero) ≡ not (is_zero_source r.source)
    payload_in q h i = let l = low in let e = ends in is.payload q (omega arith) (omega arith) ∙ ap is_payload_part (part_in r rs q h i)

    -- between the place and the piece bytes are as before
    pub zero_before : (q : ℕ) → f ≤ q → q < r.start → is_zero (get_or marks q Zero) ≡ false
    zero_before q h i =
        let e = ends in
        let s : r.start ≤ r.start = omega arith in
        is.zero q h (omega arith) ∙ ap is_zero_part (part_before (length marks) r.start q (r ∷ rs) i (s, filled, is.parts.2))

    payload_before : (q : ℕ) → f ≤ q → q < r.start → is_payload (get_or marks q Zero) ≡ false
    payload_before q h i =
        let e = ends in
        let s : r.start ≤ r.start = omega arith in
        is.payload q h (omega arith) ∙ ap is_payload_part (part_before (length marks) r.start q (r ∷ rs) i (s, filled, is.parts.2))

    next : (after : ℕ) → eqb after (end_of r) ≡ is_zero_source r.source → (after ≡ 0) ⊎ (after ≡ end_of r) → Classes marks (end_of r) after rs
    next after same either =
        let l = low in
        let s = filled in
        record {
          parts = is.parts.2;
          payload = λ q h i. is.payload q (omega arith) i ∙ ap is_payload_part (part_behind r rs q h);
          zero = λ q h i. is.zero q (omega arith) i ∙ ap is_zero_part (part_behind r rs q h);
          before = λ least. zero_in (end_of r - 1) (omega arith) (omega arith) ∙ sym same;
          until_is = either;
        }

    -- the byte before the piece isn't zero, unless zero bytes ended there
    not_zero_left : 1 ≤ r.start → (r.start ≡ until → ⊥) → is_zero (get_or marks (r.start - 1) Zero) ≡ false
    not_zero_left some apart = ⊎_elim
        (λ (h : f ≤ r.start - 1). zero_before (r.start - 1) h (let e : r.start - 1 < r.start = omega arith in e))
        (λ (h : r.start ≡ f).
        let back : r.start - 1 ≡ f - 1 = omega arith in
        let least : 1 ≤ f = omega arith in
        ap (λ q. is_zero (get_or marks q Zero)) back ∙ is.before least ∙ ne_eqb until f (λ u. apart (h ∙ sym u)))
        (at_or_behind f r.start low some)

    -- zero bytes don't go on where the next byte isn't zero
    stops_right : end_of r < length marks → is_zero (get_or marks (end_of r) Zero) ≡ false → goes_on (end_of r) rs ≡ false
    stops_right below other =
        let l = low in
        let e : end_of r ≤ end_of r = omega arith in
        stopped rs is.parts.2 (sym (is.zero (end_of r) (omega arith) below ∙ ap is_zero_part (part_behind r rs (end_of r) e)) ∙ other)
      where
        stopped : (ss : List Piece) → AreParts (length marks) (end_of r) ss → is_zero_part (part_at ss (end_of r)) ≡ false → goes_on (end_of r) ss ≡ false
        stopped [] parts none = refl
        stopped (t ∷ ts) parts none = ⊎_elim
            (λ (h : end_of r < t.start). and_false (is_zero_source t.source) (t.start == end_of r) (ne_eqb t.start (end_of r) (λ s. let b : ⊥ = omega arith in b)))
            (λ (h : t.start ≡ end_of r).
            let fill = parts.1 in
            let source : is_zero_source t.source ≡ false = sym (ap is_zero_part (part_in t ts (end_of r) (omega arith) (omega arith))) ∙ none in
            ap (λ b. b && (t.start == end_of r)) source)
            (before_or_same (end_of r) t.start parts.0)

  -- the parts behind a piece; zero bytes end there where it is of zero bytes
  pub behind_part_classes : (f until : ℕ) (r : Piece) (rs : List Piece) → Classes marks f until (r ∷ rs) → Classes marks (end_of r) (cond (is_zero_source r.source) (end_of r) 0) rs
  behind_part_classes f until r rs is = next f until r rs is (cond (is_zero_source r.source) (end_of r) 0) (same (is_zero_source r.source)) (either (is_zero_source r.source))
    where
      same : (b : Bool) → eqb (cond b (end_of r) 0) (end_of r) ≡ b
      same true = eq-eqb (end_of r) (end_of r) refl
      same false = ne_eqb 0 (end_of r) (λ e. let l = is.parts.0 in let fill = is.parts.1 in let b : ⊥ = omega arith in b)

      either : (b : Bool) → (cond b (end_of r) 0 ≡ 0) ⊎ (cond b (end_of r) 0 ≡ end_of r)
      either true = inr refl
      either false = inl refl

  -- where no zero bytes go on, the byte isn't zero
  pub stops_at : (f until : ℕ) (rs : List Piece) → Classes marks f until rs → f < length marks → goes_on f rs ≡ false → is_zero (get_or marks f Zero) ≡ false
  stops_at f until [] is below stops = is.zero f (le_same f) below
  stops_at f until (r ∷ rs) is below stops = ⊎_elim
      (λ (h : f < r.start). zero_before f until r rs is f (le_same f) h)
      (λ (h : r.start ≡ f).
      let fill = is.parts.1 in
      zero_in f until r rs is f (omega arith) (omega arith) ∙ other_source (is_zero_source r.source) (r.start == f) stops (eq-eqb r.start f h))
      (before_or_same f r.start is.parts.0)

  module _ (f until : ℕ) (r : Piece) (rs : List Piece) (is : Classes marks f until (r ∷ rs)) where
    abbrev start_list : List BlockInterval
    start_list = cond ((r.start % 4096 == 0) || (r.start == until)) [] (block_of r.start ∷ [])

    abbrev end_list : List BlockInterval
    end_list = cond ((end_of r % 4096 == 0) || leb (length marks) (end_of r) || goes_on (end_of r) rs) [] (block_of (end_of r) ∷ [])

    abbrev here_list : List BlockInterval
    here_list = record { first = r.start / 4096; last = (end_of r - 1) / 4096 } ∷ []

    touches_is : (b : Bool) → is_zero_source r.source ≡ b → touches (length marks) until (r ∷ rs) ≡ cond b (start_list ++ (end_list ++ touches (length marks) (end_of r) rs)) (here_list ++ touches (length marks) 0 rs)
    unfolding touches
    touches_is b e = ap (λ b. cond b (start_list ++ (end_list ++ touches (length marks) (end_of r) rs)) (here_list ++ touches (length marks) 0 rs)) e

    -- a block in the list has a byte that makes it so
    start_touched : is_zero_source r.source ≡ true → list_any (has_block k) start_list ≡ true → TouchedFrom f until
    start_touched zeros h =
        let parts = one_of ((r.start % 4096 == 0) || (r.start == until)) (block_of r.start) h in
        let tests = neither (r.start % 4096) 0 r.start until parts.0 in
        let within = has_from (r.start / 4096) (r.start / 4096) parts.1 in
        let odd = tests.0 in
        let l = low f until r rs is in
        let e = ends f until r rs is in
        let fill = filled f until r rs is in
        let a : 4096 * k < r.start = omega arith in
        let b : r.start < 4096 * k + 4096 = omega arith in
        let c : r.start < length marks = omega arith in
        inr (
          r.start,
          low f until r rs is,
          (λ same u. tests.1 (same ∙ sym u)),
          (
            a,
            b,
            c,
            differs_at r.start false true (not_zero_left f until r rs is (omega arith) tests.1) (zero_in f until r rs is r.start (omega arith) (omega arith) ∙ zeros) refl,
          ),
        )

    end_touched : is_zero_source r.source ≡ true → list_any (has_block k) end_list ≡ true → TouchedFrom f until
    end_touched zeros h =
        let parts = one_of ((end_of r % 4096 == 0) || leb (length marks) (end_of r) || goes_on (end_of r) rs) (block_of (end_of r)) h in
        let tests = none_of (end_of r % 4096) 0 (length marks) (end_of r) (goes_on (end_of r) rs) parts.0 in
        let within = has_from (end_of r / 4096) (end_of r / 4096) parts.1 in
        let odd = tests.0 in
        let under = tests.1 in
        let l = low f until r rs is in
        let fill = filled f until r rs is in
        let a : 4096 * k < end_of r = omega arith in
        let b : end_of r < 4096 * k + 4096 = omega arith in
        let c : f ≤ end_of r = omega arith in
        inr (
          end_of r,
          c,
          (λ same u. let d : ⊥ = omega arith in d),
          (
            a,
            b,
            under,
            differs_at (end_of r) true false (zero_in f until r rs is (end_of r - 1) (omega arith) (omega arith) ∙ zeros) (stops_at (end_of r) _ rs (behind_part_classes f until r rs is) under tests.2) refl,
          ),
        )

    here_touched : is_zero_source r.source ≡ false → list_any (has_block k) here_list ≡ true → TouchedFrom f until
    here_touched payload h =
        let within = has_from (r.start / 4096) ((end_of r - 1) / 4096) (sym (or-false (has_block k (record { first = r.start / 4096; last = (end_of r - 1) / 4096 }))) ∙ h) in
        let first = within.0 in
        let last = within.1 in
        let l = low f until r rs is in
        let fill = filled f until r rs is in
        let e = ends f until r rs is in
        let q = max r.start (4096 * k) in
        let a : f ≤ q = omega arith in
        let b : 4096 * k ≤ q = omega arith in
        let c : q < 4096 * k + 4096 = omega arith in
        let d : q < length marks = omega arith in
        inl (q, a, (b, c, d, payload_in f until r rs is q (omega arith) (omega arith) ∙ ap not payload))

  touched_from : (rs : List Piece) (f until : ℕ) → Classes marks f until rs → list_any (has_block k) (touches (length marks) until rs) ≡ true → TouchedFrom f until
  unfolding touches
  touched_from [] f until is h = cc
  touched_from (r ∷ rs) f until is h =
      at (is_zero_source r.source) refl
      (λ after same either h. later_touched f (end_of r) after (let l = is.parts.0 in let fill = is.parts.1 in omega arith) (touched_from rs (end_of r) after (next f until r rs is after same either) h) until)
    where
      end_same : (e : ℕ) → eqb e e ≡ true
      end_same e = eq-eqb e e refl

      at : (b : Bool) → is_zero_source r.source ≡ b
          → ((after : ℕ) → eqb after (end_of r) ≡ is_zero_source r.source → (after ≡ 0) ⊎ (after ≡ end_of r) → list_any (has_block k) (touches (length marks) after rs) ≡ true → TouchedFrom f until) → TouchedFrom f until
      at true zeros more = ⊎_elim
          (start_touched f until r rs is zeros)
          (λ (h : list_any (has_block k) (end_list f until r rs is ++ touches (length marks) (end_of r) rs) ≡ true). ⊎_elim
          (end_touched f until r rs is zeros)
          (more (end_of r) (end_same (end_of r) ∙ sym zeros) (inr refl))
          (or_cases _ _ (sym (list_any-append (has_block k) (end_list f until r rs is) (touches (length marks) (end_of r) rs)) ∙ h)))
          (or_cases _ _ (sym (list_any-append (has_block k) (start_list f until r rs is) (end_list f until r rs is ++ touches (length marks) (end_of r) rs)) ∙ ap (list_any (has_block k)) (sym (touches_is f until r rs is true zeros)) ∙ h))
      at false payload more = ⊎_elim
          (here_touched f until r rs is payload)
          (more 0 (ne_eqb 0 (end_of r) (λ e. let l = is.parts.0 in let fill = is.parts.1 in let b : ⊥ = omega arith in b) ∙ sym payload) (inl refl))
          (or_cases _ _ (sym (list_any-append (has_block k) (here_list f until r rs is) (touches (length marks) 0 rs)) ∙ ap (list_any (has_block k)) (sym (touches_is f until r rs is false payload)) ∙ h))

  -- ---- a byte that makes a block written puts it in the list

  clash : (x : Mark) (test : Mark → Bool) → test x ≡ true → test x ≡ false → ⊥
  clash x test h i = both_ways (test x) i h

  same_sides : (q : ℕ) (b : Bool) → is_zero (get_or marks (q - 1) Zero) ≡ b → is_zero (get_or marks q Zero) ≡ b → TurnsAt marks q → ⊥
  same_sides q b x y turns = no_difference b (sym (λ i. differ (x i) (y i)) ∙ turns)
    where
      no_difference : (b : Bool) → differ b b ≡ true → ⊥
      no_difference true h = cc
      no_difference false h = cc

  other_side : (q : ℕ) → is_zero (get_or marks (q - 1) Zero) ≡ true → TurnsAt marks q → is_zero (get_or marks q Zero) ≡ false
  other_side q x turns = of_not (is_zero (get_or marks q Zero)) (sym (ap (λ b. differ b (is_zero (get_or marks q Zero))) x) ∙ turns)
    where
      of_not : (b : Bool) → not b ≡ true → b ≡ false
      of_not true h = cc
      of_not false h = refl

  module _ (f until : ℕ) (r : Piece) (rs : List Piece) (is : Classes marks f until (r ∷ rs)) where
    -- where a byte of the piece, or one beside it, makes the block written
    abbrev Later : Type 0
    Later = TouchedFrom (end_of r) (cond (is_zero_source r.source) (end_of r) 0)

    in_start : is_zero_source r.source ≡ true → Turn r.start → (r.start ≡ until → ⊥) → list_any (has_block k) (start_list f until r rs is) ≡ true
    in_start zeros turn apart =
        let low = turn.0 in
        let high = turn.1 in
        let odd : r.start % 4096 ≡ 0 → ⊥ = λ h. let b : ⊥ = omega arith in b in
        let first : r.start / 4096 ≤ k = omega arith in
        let last : k ≤ r.start / 4096 = omega arith in
        (λ i. list_any (has_block k) (cond (ne_eqb (r.start % 4096) 0 odd i || ne_eqb r.start until apart i) [] (block_of r.start ∷ [])))
        ∙ or_left (has_block k (block_of r.start)) false (has_to (r.start / 4096) (r.start / 4096) first last)

    in_end : is_zero_source r.source ≡ true → Turn (end_of r) → list_any (has_block k) (end_list f until r rs is) ≡ true
    in_end zeros turn =
        let low = turn.0 in
        let high = turn.1 in
        let under = turn.2 in
        let fill = filled f until r rs is in
        let odd : end_of r % 4096 ≡ 0 → ⊥ = λ h. let b : ⊥ = omega arith in b in
        let first : end_of r / 4096 ≤ k = omega arith in
        let last : k ≤ end_of r / 4096 = omega arith in
        let left = zero_in f until r rs is (end_of r - 1) (omega arith) (omega arith) ∙ zeros in
        let stops = stops_right f until r rs is under (other_side (end_of r) left turn.3) in
        (λ i. list_any (has_block k) (cond (ne_eqb (end_of r % 4096) 0 odd i || not_le (length marks) (end_of r) under i || stops i) [] (block_of (end_of r) ∷ [])))
        ∙ or_left (has_block k (block_of (end_of r))) false (has_to (end_of r / 4096) (end_of r / 4096) first last)

    in_here : (q : ℕ) → r.start ≤ q → q < end_of r → Pay q → list_any (has_block k) (here_list f until r rs is) ≡ true
    in_here q h i pay =
        let low = pay.0 in
        let high = pay.1 in
        let first : r.start / 4096 ≤ k = omega arith in
        let last : k ≤ (end_of r - 1) / 4096 = omega arith in
        or_left (has_block k (record { first = r.start / 4096; last = (end_of r - 1) / 4096 })) false (has_to (r.start / 4096) ((end_of r - 1) / 4096) first last)

    -- what of the piece's own lists has the block
    data Found : Type 0 where
      InStart : is_zero_source r.source ≡ true → list_any (has_block k) (start_list f until r rs is) ≡ true → Found
      InEnd : is_zero_source r.source ≡ true → list_any (has_block k) (end_list f until r rs is) ≡ true → Found
      InHere : is_zero_source r.source ≡ false → list_any (has_block k) (here_list f until r rs is) ≡ true → Found
      InLater : TouchedFrom (end_of r) (cond (is_zero_source r.source) (end_of r) 0) → Found

    pay_found : (q : ℕ) → f ≤ q → Pay q → Found
    pay_found q from pay = ⊎_elim
        (λ (h : q < r.start). absurd (clash (get_or marks q Zero) is_payload pay.3 (payload_before f until r rs is q from h)))
        (λ (h : r.start ≤ q). ⊎_elim
        (λ (i : q < end_of r). InHere (not-true (is_zero_source r.source) (sym (payload_in f until r rs is q h i) ∙ pay.3)) (in_here q h i pay))
        (λ (i : end_of r ≤ q). InLater (inl (q, i, pay)))
        (below_or_not q (end_of r)))
        (below_or_not q r.start)

    turn_found : (q : ℕ) → f ≤ q → (q ≡ f → until ≡ f → ⊥) → Turn q → Found
    turn_found q from new turn = ⊎_elim before (λ (h : r.start ≤ q). ⊎_elim (inside_turn h) behind_turn (below_or_not q (end_of r))) (below_or_not q r.start)
      where
        least : 1 ≤ q
        least = let low = turn.0 in omega arith

        before : q < r.start → Found
        before h = ⊎_elim
            (λ (i : f ≤ q - 1). absurd (same_sides q false (zero_before f until r rs is (q - 1) i (omega arith)) (zero_before f until r rs is q from h) turn.3))
            (λ (i : q ≡ f).
            let back : q - 1 ≡ f - 1 = omega arith in
            let some : 1 ≤ f = (let l = least in omega arith) in
            absurd (same_sides q false (ap (λ q. is_zero (get_or marks q Zero)) back ∙ is.before some ∙ ne_eqb until f (new i)) (zero_before f until r rs is q from h) turn.3))
            (at_or_behind f q from least)

        -- zero bytes didn't end where the piece begins, if the turn is there
        apart : q ≡ r.start → r.start ≡ until → ⊥
        apart e u = ⊎_elim
            (λ (none : until ≡ 0). let l = least in let b : ⊥ = omega arith in b)
            (λ (at : until ≡ f). new (e ∙ u ∙ at) at)
            is.until_is

        at_start : (b : Bool) → is_zero_source r.source ≡ b → q ≡ r.start → q < end_of r → Found
        at_start true zeros e i = InStart zeros (in_start zeros (subst Turn e turn) (apart e))
        at_start false payload e i = absurd (same_sides q false
            (ap (λ q. is_zero (get_or marks (q - 1) Zero)) e ∙ not_zero_left f until r rs is (let l = least in omega arith) (apart e))
            (zero_in f until r rs is q (omega arith) i ∙ payload) turn.3)

        inside_turn : r.start ≤ q → q < end_of r → Found
        inside_turn h i = ⊎_elim
            (λ (j : r.start < q). absurd (same_sides q (is_zero_source r.source) (zero_in f until r rs is (q - 1) (omega arith) (omega arith)) (zero_in f until r rs is q h i) turn.3))
            (λ (e : q ≡ r.start). at_start (is_zero_source r.source) refl e i)
            (before_or_same r.start q h)

        at_end : (b : Bool) → is_zero_source r.source ≡ b → end_of r ≤ q → q ≡ end_of r → Found
        at_end true zeros i e = InEnd zeros (in_end zeros (subst Turn e turn))
        at_end false payload i e = InLater (inr (q, i, (λ same u. let fill = filled f until r rs is in let none : 0 ≡ end_of r = ap (λ b. cond b (end_of r) 0) (sym payload) ∙ u in let b : ⊥ = omega arith in b), turn))

        behind_turn : end_of r ≤ q → Found
        behind_turn i = ⊎_elim
            (λ (j : end_of r < q). InLater (inr (q, i, (λ same u. let b : ⊥ = omega arith in b), turn)))
            (λ (e : q ≡ end_of r). at_end (is_zero_source r.source) refl i e)
            (before_or_same (end_of r) q i)

    found : TouchedFrom f until → Found
    found touched = ⊎_elim
        (λ (one : (q : ℕ) × (f ≤ q) × Pay q). let (q, from, pay) = one in pay_found q from pay)
        (λ (two : (q : ℕ) × (f ≤ q) × (q ≡ f → until ≡ f → ⊥) × Turn q). let (q, from, new, turn) = two in turn_found q from new turn)
        touched

  none_touched : (f until : ℕ) → Classes marks f until [] → TouchedFrom f until → ⊥
  none_touched f until is touched = ⊎_elim
      (λ (one : (q : ℕ) × (f ≤ q) × Pay q). let (q, from, pay) = one in clash (get_or marks q Zero) is_payload pay.3 (is.payload q from pay.2))
      (λ (two : (q : ℕ) × (f ≤ q) × (q ≡ f → until ≡ f → ⊥) × Turn q).
      let (q, from, new, turn) = two in
      let low = turn.0 in
      let under = turn.2 in
      same_sides q false (⊎_elim
      (λ (i : f ≤ q - 1). is.zero (q - 1) i (omega arith))
      (λ (i : q ≡ f).
      let back : q - 1 ≡ f - 1 = omega arith in
      ap (λ q. is_zero (get_or marks q Zero)) back ∙ is.before (omega arith) ∙ ne_eqb until f (new i))
      (at_or_behind f q from (omega arith))) (is.zero q from under) turn.3)
      touched

  touched_to : (rs : List Piece) (f until : ℕ) → Classes marks f until rs → TouchedFrom f until → list_any (has_block k) (touches (length marks) until rs) ≡ true
  touched_to [] f until is touched = absurd (none_touched f until is touched)
  touched_to (r ∷ rs) f until is touched =
      of_found (found f until r rs is touched)
      (λ later. touched_to rs (end_of r) (cond (is_zero_source r.source) (end_of r) 0) (next f until r rs is (cond (is_zero_source r.source) (end_of r) 0) (after_same (is_zero_source r.source)) (after_either (is_zero_source r.source))) later)
    where
      after_same : (b : Bool) → eqb (cond b (end_of r) 0) (end_of r) ≡ b
      after_same true = eq-eqb (end_of r) (end_of r) refl
      after_same false = ne_eqb 0 (end_of r) (λ e. let l = is.parts.0 in let fill = is.parts.1 in let b : ⊥ = omega arith in b)

      after_either : (b : Bool) → (cond b (end_of r) 0 ≡ 0) ⊎ (cond b (end_of r) 0 ≡ end_of r)
      after_either true = inr refl
      after_either false = inl refl

      of_later : (b : Bool) → is_zero_source r.source ≡ b → list_any (has_block k) (touches (length marks) (cond (is_zero_source r.source) (end_of r) 0) rs) ≡ true → list_any (has_block k) (touches (length marks) until (r ∷ rs)) ≡ true
      of_later true zeros h =
          ap (list_any (has_block k)) (touches_is f until r rs is true zeros)
          ∙ list_any-append (has_block k) (start_list f until r rs is) (end_list f until r rs is ++ touches (length marks) (end_of r) rs)
          ∙ or_right (list_any (has_block k) (start_list f until r rs is)) (list_any (has_block k) (end_list f until r rs is ++ touches (length marks) (end_of r) rs))
          (list_any-append (has_block k) (end_list f until r rs is) (touches (length marks) (end_of r) rs)
          ∙ or_right (list_any (has_block k) (end_list f until r rs is)) (list_any (has_block k) (touches (length marks) (end_of r) rs))
          (ap (λ b. list_any (has_block k) (touches (length marks) (cond b (end_of r) 0) rs)) (sym zeros) ∙ h))
      of_later false payload h =
          ap (list_any (has_block k)) (touches_is f until r rs is false payload)
          ∙ list_any-append (has_block k) (here_list f until r rs is) (touches (length marks) 0 rs)
          ∙ or_right (list_any (has_block k) (here_list f until r rs is)) (list_any (has_block k) (touches (length marks) 0 rs))
          (ap (λ b. list_any (has_block k) (touches (length marks) (cond b (end_of r) 0) rs)) (sym payload) ∙ h)

      of_found : Found f until r rs is → (TouchedFrom (end_of r) (cond (is_zero_source r.source) (end_of r) 0) → list_any (has_block k) (touches (length marks) (cond (is_zero_source r.source) (end_of r) 0) rs) ≡ true)
          → list_any (has_block k) (touches (length marks) until (r ∷ rs)) ≡ true
      of_found (InStart zeros h) more =
          ap (list_any (has_block k)) (touches_is f until r rs is true zeros)
          ∙ list_any-append (has_block k) (start_list f until r rs is) (end_list f until r rs is ++ touches (length marks) (end_of r) rs)
          ∙ or_left (list_any (has_block k) (start_list f until r rs is)) (list_any (has_block k) (end_list f until r rs is ++ touches (length marks) (end_of r) rs)) h
      of_found (InEnd zeros h) more =
          ap (list_any (has_block k)) (touches_is f until r rs is true zeros)
          ∙ list_any-append (has_block k) (start_list f until r rs is) (end_list f until r rs is ++ touches (length marks) (end_of r) rs)
          ∙ or_right (list_any (has_block k) (start_list f until r rs is)) (list_any (has_block k) (end_list f until r rs is ++ touches (length marks) (end_of r) rs))
          (list_any-append (has_block k) (end_list f until r rs is) (touches (length marks) (end_of r) rs)
          ∙ or_left (list_any (has_block k) (end_list f until r rs is)) (list_any (has_block k) (touches (length marks) (end_of r) rs)) h)
      of_found (InHere payload h) more =
          ap (list_any (has_block k)) (touches_is f until r rs is false payload)
          ∙ list_any-append (has_block k) (here_list f until r rs is) (touches (length marks) 0 rs)
          ∙ or_left (list_any (has_block k) (here_list f until r rs is)) (list_any (has_block k) (touches (length marks) 0 rs)) h
      of_found (InLater later) more = of_later (is_zero_source r.source) refl (more later)

-- ---- in order, and below the size

module _ (size : ℕ) where
  in_order : (rs : List Piece) (f until m : ℕ) → AreParts size f rs → m ≤ f / 4096 → InOrder m (touches size until rs)
  unfolding touches
  in_order [] f until m parts h = tt
  in_order (r ∷ rs) f until m parts h =
      let low = parts.0 in
      let filled = parts.1 in
      at (is_zero_source r.source) ((r.start % 4096 == 0) || (r.start == until)) ((end_of r % 4096 == 0) || leb size (end_of r) || goes_on (end_of r) rs)
      (λ l i. in_order rs (end_of r) (end_of r) l parts.2 i) (in_order rs (end_of r) 0 ((end_of r - 1) / 4096) parts.2 (omega arith))
      (omega arith) (omega arith) (omega arith) (omega arith)
    where
      at : (b c d : Bool) → ((l : ℕ) → l ≤ end_of r / 4096 → InOrder l (touches size (end_of r) rs)) → InOrder ((end_of r - 1) / 4096) (touches size 0 rs)
          → m ≤ r.start / 4096 → r.start / 4096 ≤ end_of r / 4096 → r.start / 4096 ≤ (end_of r - 1) / 4096 → m ≤ end_of r / 4096
          → InOrder m (cond b (cond c [] (block_of r.start ∷ []) ++ (cond d [] (block_of (end_of r) ∷ []) ++ touches size (end_of r) rs)) (record { first = r.start / 4096; last = (end_of r - 1) / 4096 } ∷ touches size 0 rs))
      at true true true more payload s e l far = more m far
      at true true false more payload s e l far = (far, le_same (end_of r / 4096), more (end_of r / 4096) (le_same (end_of r / 4096)))
      at true false true more payload s e l far = (s, le_same (r.start / 4096), more (r.start / 4096) e)
      at true false false more payload s e l far = (s, le_same (r.start / 4096), (e, le_same (end_of r / 4096), more (end_of r / 4096) (le_same (end_of r / 4096))))
      at false c d more payload s e l far = (s, l, payload)

  within : (rs : List Piece) (f until : ℕ) → AreParts size f rs → AllByRecursion (λ (b : BlockInterval). b.last < block_count size) (touches size until rs)
  unfolding touches
  within [] f until parts = tt
  within (r ∷ rs) f until parts =
      let low = parts.0 in
      let filled = parts.1 in
      let ends = ends_low size (end_of r) rs parts.2 in
      at (is_zero_source r.source) ((r.start % 4096 == 0) || (r.start == until)) ((end_of r % 4096 == 0) || leb size (end_of r) || goes_on (end_of r) rs) refl
      (within rs (end_of r) (end_of r) parts.2) (within rs (end_of r) 0 parts.2) (omega arith) (omega arith)
    where
      end_within : (end_of r % 4096 == 0 || leb size (end_of r) || goes_on (end_of r) rs) ≡ false → end_of r / 4096 < block_count size
      end_within stops = let below = (none_of (end_of r % 4096) 0 size (end_of r) (goes_on (end_of r) rs) stops).1 in omega arith

      at : (b c d : Bool) → ((end_of r % 4096 == 0) || leb size (end_of r) || goes_on (end_of r) rs) ≡ d
          → AllByRecursion (λ (b : BlockInterval). b.last < block_count size) (touches size (end_of r) rs) → AllByRecursion (λ (b : BlockInterval). b.last < block_count size) (touches size 0 rs)
          → r.start / 4096 < block_count size → (end_of r - 1) / 4096 < block_count size
          → AllByRecursion (λ (b : BlockInterval). b.last < block_count size) (cond b (cond c [] (block_of r.start ∷ []) ++ (cond d [] (block_of (end_of r) ∷ []) ++ touches size (end_of r) rs)) (record { first = r.start / 4096; last = (end_of r - 1) / 4096 } ∷ touches size 0 rs))
      at true true true is more payload s l = more
      at true true false is more payload s l = (end_within is, more)
      at true false true is more payload s l = (s, more)
      at true false false is more payload s l = (s, (end_within is, more))
      at false c d is more payload s l = (l, payload)

-- ---- a file

same_bools : (a b : Bool) → (a ≡ true → b ≡ true) → (b ≡ true → a ≡ true) → a ≡ b
same_bools true b h i = sym (h refl)
same_bools false true h i = i refl
same_bools false false h i = refl

module _ (n : ℕ) (marks : List Mark) (rs : List Piece) (is : Classes marks 0 0 rs) where
  pub exact : (k : ℕ) → list_any (has_block k) (touches (length marks) 0 rs) ≡ is_written (block_at marks k)
  exact k = same_bools _ _ to from
    where
      to : list_any (has_block k) (touches (length marks) 0 rs) ≡ true → is_written (block_at marks k) ≡ true
      to h = touched_is_written marks k (⊎_elim
          (λ (one : (q : ℕ) × (0 ≤ q) × Pay marks k q). let (q, low, pay) = one in inl (q, pay.0, pay.1, pay.2, pay.3))
          (λ (two : (q : ℕ) × (0 ≤ q) × (q ≡ 0 → 0 ≡ 0 → ⊥) × Turn marks k q). let (q, low, new, turn) = two in inr (q, turn.0, turn.1, turn.2, turn.3))
          (touched_from marks k rs 0 0 is h))

      from : is_written (block_at marks k) ≡ true → list_any (has_block k) (touches (length marks) 0 rs) ≡ true
      from h = touched_to marks k rs 0 0 is (⊎_elim
          (λ (one : (q : ℕ) × (4096 * k ≤ q) × (q < 4096 * k + 4096) × (q < length marks) × (is_payload (get_or marks q Zero) ≡ true)).
          let (q, a, b, c, d) = one in inl (q, (let z : 0 ≤ q = omega arith in z), (a, b, c, d)))
          (λ (two : (q : ℕ) × (4096 * k < q) × (q < 4096 * k + 4096) × (q < length marks) × TurnsAt marks q).
          let (q, a, b, c, d) = two in inr (q, (let z : 0 ≤ q = omega arith in z), (λ e u. let x : ⊥ = omega arith in x), (a, b, c, d)))
          (written_is_touched marks k h))

  -- the written blocks of a file are counted over its pieces, whatever the length of what is zero
  pub file_count : length (map (numbered n) (filter (passes is_written) (blocks_of marks))) ≡ counted 0 (touches (length marks) 0 rs)
  file_count = file_needs n marks (touches (length marks) 0 rs) (in_order (length marks) rs 0 0 0 is.parts (omega arith)) (within (length marks) rs 0 0 is.parts) (λ k below. exact k)
