-- The blocks that a run makes all zero are those in the ranges that its right pieces clear.
use Rattle.std.proofs.Common.{◌≡◌, ℕ, zero, suc, ◌+◌, ◌-◌, ◌*◌, ◌/◌, ◌<◌, ◌≤◌, ◌⊎◌, inl, inr, ⊎_elim, min, Bool, true, false, cond, ◌==◌, ◌&&◌, ◌||◌, ltb, leb, List, [], ◌∷◌, ◌++◌, length, drop, map, filter, flat_map, get_or, length-drop, Option, Some, None, refl, sym, ap, ◌∙◌, arith, eqb-true}
use Rattle.std.specs.List.{list_any, list_all}
use Rattle.std.proofs.Math.Bool.{or-false}
use Rattle.std.proofs.lemmas.Bool.{and_from, and_parts, both_ways, eq-eqb, leb-true, leb-false, le-leb, lt-ltb, ltb-true, or_cases, or_left, or_right, true_from_ne_false}
use Rattle.std.proofs.lemmas.List.{get_or-take, get_or-drop, length-take}
use Rattle.std.proofs.lemmas.List.Folds.{list_all_at, list_any-append}
use Rattle.kfs_pieces.specs.TouchedBlocks.{goes_on, is_zero_source, of_file}
use Rattle.kfs_model.specs.LastCover.{file_size}
use Rattle.kfs_model.specs.Placement.{is_cleared, is_zero, block_count, blocks_that, cleared_blocks, numbers_from}
use Rattle.kfs_model.specs.Plan.{ArePieces, end_of}
use Rattle.kfs_model.specs.PlanRow.{Piece}
use Rattle.kfs_model.specs.Run.{Mark, Zero}
use Rattle.kfs_model.specs.Table.{numbers, get}
use Rattle.kfs_model.specs.Tree.{Tree, Node, content_of}
use Rattle.kfs_pieces.proofs.BlockCounts.{block_at}
use Rattle.kfs_pieces.proofs.NeedCounted.{classes}
use Rattle.kfs_model.proofs.Pieces.{list_any-filter}
use Rattle.kfs_model.proofs.Tables.{any_from_found, found_from_any}
use Rattle.kfs_model.proofs.Tape.{below_or_not}
use Rattle.kfs_pieces.proofs.TouchedBlocks.{Classes, behind_part_classes, stops_at, zero_before, zero_in}
use Rattle.kfs_pieces.specs.BlockLists.{blocks_between, cleared_from, cleared_runs, is_in_range, whole_until, zeros_start}
use Rattle.kfs_pieces.specs.declared.blocks.BlockRange.{BlockRange}
use Rattle.kfs_pieces.proofs.WrittenLists.{blocks_by_number}

-- ---- lists of marks

all_read : (xs : List Mark) → ((j : ℕ) → j < length xs → is_zero (get_or xs j Zero) ≡ true) → list_all is_zero xs ≡ true
all_read [] zeros = refl
all_read (x ∷ xs) zeros = and_from (is_zero x) (list_all is_zero xs) (zeros 0 (omega arith)) (all_read xs (λ j below. zeros (suc j) (omega arith)))

read_all : (xs : List Mark) (j : ℕ) → list_all is_zero xs ≡ true → j < length xs → is_zero (get_or xs j Zero) ≡ true
read_all xs j all below = true_from_ne_false _ (λ other. both_ways _ (list_all_at is_zero xs j Zero below other) all)

-- ---- one range

-- where the last whole block before a place ends, in a file of this size
module _ (size e k : ℕ) where
  until_parts : k < whole_until size e → (size ≤ e) ⊎ (4096 * k + 4096 ≤ e)
  until_parts below = at (leb size e) refl below
    where
      at : (b : Bool) → leb size e ≡ b → k < cond b (block_count size) (e / 4096) → (size ≤ e) ⊎ (4096 * k + 4096 ≤ e)
      at true is below = inl (leb-true size e is)
      at false is below = inr (omega arith)

  until_from : 4096 * k < size → (size ≤ e) ⊎ (4096 * k + 4096 ≤ e) → k < whole_until size e
  until_from begins reaches = at (leb size e) refl
    where
      at : (b : Bool) → leb size e ≡ b → k < cond b (block_count size) (e / 4096)
      at true is = omega arith
      at false is =
          let short = leb-false size e is in
          ⊎_elim (λ (h : size ≤ e). absurd (omega arith)) (λ (h : 4096 * k + 4096 ≤ e). let below : k < e / 4096 = omega arith in below) reaches

  reach_or_not : ((size ≤ e) ⊎ (4096 * k + 4096 ≤ e)) ⊎ (((4096 * k ≤ e) × (e < 4096 * k + 4096) × (e < size)) ⊎ (e < 4096 * k))
  reach_or_not = grind arith

module _ (size s e k : ℕ) where
  abbrev range : BlockRange
  range = record { first = block_count s; end = whole_until size e }

  between_parts : list_any (is_in_range k) (blocks_between size s e) ≡ true → (s ≤ 4096 * k) × ((size ≤ e) ⊎ (4096 * k + 4096 ≤ e))
  between_parts has = at (ltb (block_count s) (whole_until size e)) has
    where
      at : (b : Bool) → list_any (is_in_range k) (cond b (range ∷ []) []) ≡ true → (s ≤ 4096 * k) × ((size ≤ e) ⊎ (4096 * k + 4096 ≤ e))
      at false has = cc
      at true has =
          let parts = and_parts (leb (block_count s) k) (ltb k (whole_until size e)) (sym (or-false (is_in_range k range)) ∙ has) in
          let low = leb-true (block_count s) k parts.0 in
          ((let least : s ≤ 4096 * k = omega arith in least), until_parts size e k (ltb-true k (whole_until size e) parts.1))

  between_from : 4096 * k < size → s ≤ 4096 * k → (size ≤ e) ⊎ (4096 * k + 4096 ≤ e) → list_any (is_in_range k) (blocks_between size s e) ≡ true
  between_from begins low reaches =
      let above : block_count s ≤ k = omega arith in
      let below = until_from size e k begins reaches in
      ap (λ b. list_any (is_in_range k) (cond b (range ∷ []) [])) (lt-ltb (block_count s) (whole_until size e) (omega arith))
      ∙ or_left (is_in_range k range) false (and_from (leb (block_count s) k) (ltb k (whole_until size e)) (le-leb (block_count s) k above) (lt-ltb k (whole_until size e) below))

-- ---- one block

module _ (marks : List Mark) (k : ℕ) where
  -- each of its bytes is zero
  abbrev AllZero : Type 0
  AllZero = (q : ℕ) → 4096 * k ≤ q → q < 4096 * k + 4096 → q < length marks → is_zero (get_or marks q Zero) ≡ true

  long : length (block_at marks k) ≡ min 4096 (length marks - 4096 * k)
  long = length-take 4096 (drop (4096 * k) marks) ∙ ap (min 4096) (length-drop (4096 * k) marks)

  read : (j : ℕ) → j < 4096 → get_or (block_at marks k) j Zero ≡ get_or marks (4096 * k + j) Zero
  read j below = get_or-take 4096 (drop (4096 * k) marks) j Zero below ∙ get_or-drop (4096 * k) marks j Zero

  cleared_all : is_cleared (block_at marks k) ≡ true → AllZero
  cleared_all cleared q low high below =
      let j = q - 4096 * k in
      let l = long in
      let place : 4096 * k + (q - 4096 * k) ≡ q = omega arith in
      ap (λ p. is_zero (get_or marks p Zero)) (sym place)
      ∙ ap is_zero (sym (read (q - 4096 * k) (omega arith)))
      ∙ read_all (block_at marks k) (q - 4096 * k) cleared (omega arith)

  all_cleared : AllZero → is_cleared (block_at marks k) ≡ true
  all_cleared all = all_read (block_at marks k) (λ j below.
      let l = long in
      ap is_zero (read j (omega arith)) ∙ all (4096 * k + j) (omega arith) (omega arith) (omega arith))

  -- ---- over pieces

  -- a range has blocks of zero bytes alone, where bytes from s to e are zero
  between_zero : (s e : ℕ) → ((q : ℕ) → s ≤ q → q < e → is_zero (get_or marks q Zero) ≡ true) → list_any (is_in_range k) (blocks_between (length marks) s e) ≡ true → AllZero
  between_zero s e zeros has q low high below =
      let parts = between_parts (length marks) s e k has in
      let least = parts.0 in
      zeros q (omega arith) (⊎_elim (λ (h : length marks ≤ e). let u : q < e = omega arith in u) (λ (h : 4096 * k + 4096 ≤ e). let u : q < e = omega arith in u) parts.1)

  ranges_zero : (rs : List Piece) (s e until : ℕ) → Classes marks e until rs → ((q : ℕ) → s ≤ q → q < e → is_zero (get_or marks q Zero) ≡ true)
      → list_any (is_in_range k) (cleared_from (length marks) s e rs) ≡ true → AllZero
  unfolding cleared_from
  ranges_zero [] s e until is zeros has = between_zero s e zeros has
  ranges_zero (r ∷ rs) s e until is zeros has =
      at (goes_on e (r ∷ rs)) refl has (λ start more. ranges_zero rs start (end_of r) (cond (is_zero_source r.source) (end_of r) 0) (behind_part_classes marks k e until r rs is) more)
    where
      Zeros : (from to : ℕ) → Type 0
      Zeros from to = (q : ℕ) → from ≤ q → q < to → is_zero (get_or marks q Zero) ≡ true

      at : (b : Bool) → goes_on e (r ∷ rs) ≡ b
          → list_any (is_in_range k) (cond b (cleared_from (length marks) s (end_of r) rs) (blocks_between (length marks) s e ++ cleared_from (length marks) (zeros_start r) (end_of r) rs)) ≡ true
          → ((start : ℕ) → ((q : ℕ) → start ≤ q → q < end_of r → is_zero (get_or marks q Zero) ≡ true) → list_any (is_in_range k) (cleared_from (length marks) start (end_of r) rs) ≡ true → AllZero) → AllZero
      at true goes has more =
          let parts = and_parts (is_zero_source r.source) (r.start == e) goes in
          let same = eqb-true r.start e parts.1 in
          more s (λ q low high. ⊎_elim
          (λ (h : q < e). zeros q low h)
          (λ (h : e ≤ q). zero_in marks k e until r rs is q (omega arith) high ∙ parts.0)
          (below_or_not q e)) has
      at false stops has more = ⊎_elim
          (between_zero s e zeros)
          (more (zeros_start r) (of_piece (is_zero_source r.source) refl))
          (or_cases _ _ (sym (list_any-append (is_in_range k) (blocks_between (length marks) s e) (cleared_from (length marks) (zeros_start r) (end_of r) rs)) ∙ has))
        where
          of_piece : (b : Bool) → is_zero_source r.source ≡ b → (q : ℕ) → cond b r.start (end_of r) ≤ q → q < end_of r → is_zero (get_or marks q Zero) ≡ true
          of_piece true source q low high = zero_in marks k e until r rs is q low high ∙ source
          of_piece false source q low high = absurd (omega arith)

  -- a block of zero bytes alone is in a range, where zero bytes begin at s at the latest
  module _ (begins : 4096 * k < length marks) (all : AllZero) where
    first_zero : is_zero (get_or marks (4096 * k) Zero) ≡ true
    first_zero = all (4096 * k) (omega arith) (omega arith) begins

    -- no zero bytes go on from a place in the block: it isn't in the block
    not_inside : (e until : ℕ) (rs : List Piece) → Classes marks e until rs → goes_on e rs ≡ false → 4096 * k ≤ e → e < 4096 * k + 4096 → e < length marks → ⊥
    not_inside e until rs is stops low high below = both_ways _ (stops_at marks k e until rs is below stops) (all e low high below)

    -- zero bytes behind e begin by the block, which they reach
    start_by : (r : Piece) (rs : List Piece) (e until : ℕ) → Classes marks e until (r ∷ rs) → e < 4096 * k → zeros_start r ≤ 4096 * k
    start_by r rs e until is before = at (is_zero_source r.source) refl
      where
        not_before : 4096 * k < r.start → ⊥
        not_before h = both_ways _ (zero_before marks k e until r rs is (4096 * k) (omega arith) h) first_zero

        at : (b : Bool) → is_zero_source r.source ≡ b → cond b r.start (end_of r) ≤ 4096 * k
        at true source = ⊎_elim (λ (h : 4096 * k < r.start). absurd (not_before h)) (λ (h : r.start ≤ 4096 * k). h) (below_or_not (4096 * k) r.start)
        at false source = ⊎_elim
            (λ (h : 4096 * k < end_of r). ⊎_elim
            (λ (i : 4096 * k < r.start). absurd (not_before i))
            (λ (i : r.start ≤ 4096 * k). absurd (both_ways _ (zero_in marks k e until r rs is (4096 * k) i h ∙ source) first_zero))
            (below_or_not (4096 * k) r.start))
            (λ (h : end_of r ≤ 4096 * k). h)
            (below_or_not (4096 * k) (end_of r))

    zero_ranges : (rs : List Piece) (s e until : ℕ) → Classes marks e until rs → s ≤ 4096 * k → list_any (is_in_range k) (cleared_from (length marks) s e rs) ≡ true
    unfolding cleared_from
    zero_ranges [] s e until is low = ⊎_elim
        (between_from (length marks) s e k begins low)
        (λ other. ⊎_elim
        (λ (inside : (4096 * k ≤ e) × (e < 4096 * k + 4096) × (e < length marks)). absurd (not_inside e until [] is refl inside.0 inside.1 inside.2))
        (λ (before : e < 4096 * k). absurd (both_ways _ (is.zero (4096 * k) (omega arith) begins) first_zero))
        other)
        (reach_or_not (length marks) e k)
    zero_ranges (r ∷ rs) s e until is low =
        at (goes_on e (r ∷ rs)) refl (λ start least. zero_ranges rs start (end_of r) (cond (is_zero_source r.source) (end_of r) 0) (behind_part_classes marks k e until r rs is) least)
      where
        at : (b : Bool) → goes_on e (r ∷ rs) ≡ b → ((start : ℕ) → start ≤ 4096 * k → list_any (is_in_range k) (cleared_from (length marks) start (end_of r) rs) ≡ true)
            → list_any (is_in_range k) (cond b (cleared_from (length marks) s (end_of r) rs) (blocks_between (length marks) s e ++ cleared_from (length marks) (zeros_start r) (end_of r) rs)) ≡ true
        at true goes more = more s low
        at false stops more =
            let here = list_any (is_in_range k) (blocks_between (length marks) s e) in
            let later = list_any (is_in_range k) (cleared_from (length marks) (zeros_start r) (end_of r) rs) in
            list_any-append (is_in_range k) (blocks_between (length marks) s e) (cleared_from (length marks) (zeros_start r) (end_of r) rs)
            ∙ ⊎_elim
            (λ reaches. or_left here later (between_from (length marks) s e k begins low reaches))
            (λ other. ⊎_elim
            (λ (inside : (4096 * k ≤ e) × (e < 4096 * k + 4096) × (e < length marks)). absurd (not_inside e until (r ∷ rs) is stops inside.0 inside.1 inside.2))
            (λ (before : e < 4096 * k). or_right here later (more (zeros_start r) (start_by r rs e until is before)))
            other)
            (reach_or_not (length marks) e k)

-- ---- of a file

same_bools : (a b : Bool) → (a ≡ true → b ≡ true) → (b ≡ true → a ≡ true) → a ≡ b
same_bools true b to from = sym (to refl)
same_bools false true to from = from refl
same_bools false false to from = refl

file_cleared : (marks : List Mark) (rs : List Piece) (k : ℕ) → Classes marks 0 0 rs → k < block_count (length marks) → is_cleared (block_at marks k) ≡ list_any (is_in_range k) (cleared_runs (length marks) rs)
file_cleared marks rs k is below =
    same_bools _ _
    (λ cleared. zero_ranges marks k (omega arith) (cleared_all marks k cleared) rs 0 0 0 is (omega arith))
    (λ has. all_cleared marks k (ranges_zero marks k rs 0 0 0 is (λ q low high. absurd (omega arith)) has))

-- ---- of a tree

any_flat : {X Y : Type 0} (test : Y → Bool) (f : X → List Y) (xs : List X) → list_any test (flat_map f xs) ≡ list_any (λ x. list_any test (f x)) xs
any_flat test f [] = refl
any_flat test f (x ∷ xs) = list_any-append test (f x) (flat_map f xs) ∙ ap (λ b. list_any test (f x) || b) (any_flat test f xs)

any_mapped : {X Y : Type 0} (test : Y → Bool) (f : X → Y) (xs : List X) → list_any test (map f xs) ≡ list_any (λ x. test (f x)) xs
any_mapped test f [] = refl
any_mapped test f (x ∷ xs) = ap (λ b. test (f x) || b) (any_mapped test f xs)

-- one of so many numbers passes the test
number_parts : (test : ℕ → Bool) (count first : ℕ) → list_any test (numbers_from first count) ≡ true → (k : ℕ) × (first ≤ k) × (k < first + count) × (test k ≡ true)
number_parts test zero first any = cc
number_parts test (suc count) first any = ⊎_elim
    (λ (here : test first ≡ true). (first, (let a : first ≤ first = omega arith in a), (let b : first < first + suc count = omega arith in b), here))
    (λ (later : list_any test (numbers_from (first + 1) count) ≡ true).
    let (k, low, high, passes) = number_parts test count (first + 1) later in
    (k, (let a : first ≤ k = omega arith in a), (let b : k < first + suc count = omega arith in b), passes))
    (or_cases (test first) (list_any test (numbers_from (first + 1) count)) any)

number_from : (test : ℕ → Bool) (count first k : ℕ) → first ≤ k → k < first + count → test k ≡ true → list_any test (numbers_from first count) ≡ true
number_from test zero first k low high passes = absurd (omega arith)
number_from test (suc count) first k low high passes = ⊎_elim
    (λ (later : first < k). or_right (test first) (list_any test (numbers_from (first + 1) count)) (number_from test count (first + 1) k (omega arith) (omega arith) passes))
    (λ (here : k ≤ first).
    let same : k ≡ first = omega arith in
    or_left (test first) (list_any test (numbers_from (first + 1) count)) (ap test (sym same) ∙ passes))
    (below_or_not first k)

module _ (number block : ℕ) where
  abbrev is_same : ℕ × ℕ → Bool
  is_same other = (other.0 == number) && (other.1 == block)

  -- a block of a node is cleared
  module _ (n : ℕ) (node : Node Mark) where
    abbrev marks_of : List Mark
    marks_of = content_of (Some node)

    abbrev is_one : ℕ → Bool
    is_one k = is_cleared (block_at marks_of k) && is_same (n, k)

    node_any : list_any is_same (blocks_that is_cleared (n, node)) ≡ list_any is_one (numbers_from 0 (block_count (length marks_of)))
    node_any =
        ap (list_any is_same) (blocks_by_number is_cleared n marks_of)
        ∙ any_mapped is_same (λ (k : ℕ). (n, k)) (filter (λ k. is_cleared (block_at marks_of k)) (numbers_from 0 (block_count (length marks_of))))
        ∙ list_any-filter (λ k. is_same (n, k)) (λ k. is_cleared (block_at marks_of k)) (numbers_from 0 (block_count (length marks_of)))

    node_parts : list_any is_same (blocks_that is_cleared (n, node)) ≡ true → (n ≡ number) × (is_cleared (block_at marks_of block) ≡ true)
    node_parts any =
        let (k, low, high, one) = number_parts is_one (block_count (length marks_of)) 0 (sym node_any ∙ any) in
        let parts = and_parts (is_cleared (block_at marks_of k)) (is_same (n, k)) one in
        let same = and_parts (n == number) (k == block) parts.1 in
        (eqb-true n number same.0, ap (λ j. is_cleared (block_at marks_of j)) (sym (eqb-true k block same.1)) ∙ parts.0)

    node_from : n ≡ number → block < block_count (length marks_of) → is_cleared (block_at marks_of block) ≡ true → list_any is_same (blocks_that is_cleared (n, node)) ≡ true
    node_from same below cleared =
        node_any ∙ number_from is_one (block_count (length marks_of)) 0 block (omega arith) (omega arith)
        (and_from (is_cleared (block_at marks_of block)) (is_same (n, block)) cleared (and_from (n == number) (block == block) (eq-eqb n number same) (eq-eqb block block refl)))

  module _ (after : Tree Mark) where
    tree_cleared : block < block_count (file_size after number) → list_any is_same (cleared_blocks after) ≡ is_cleared (block_at (content_of (get after.nodes number)) block)
    unfolding cleared_blocks get
    tree_cleared below = any_flat is_same (blocks_that is_cleared) after.nodes.entries ∙ same_bools _ _ to (from (get after.nodes number) refl below)
      where
        to : list_any (λ e. list_any is_same (blocks_that is_cleared e)) after.nodes.entries ≡ true → is_cleared (block_at (content_of (get after.nodes number)) block) ≡ true
        to any =
            let (key, node, there, has) = found_from_any numbers (λ e. list_any is_same (blocks_that is_cleared e)) after.nodes.entries after.nodes.sorted any in
            let parts = node_parts key node has in
            ap (λ o. is_cleared (block_at (content_of o) block)) (ap (get after.nodes) (sym parts.0) ∙ there) ∙ parts.1

        from : (o : Option (Node Mark)) → get after.nodes number ≡ o → block < block_count (length (content_of o)) → is_cleared (block_at (content_of o) block) ≡ true
            → list_any (λ e. list_any is_same (blocks_that is_cleared e)) after.nodes.entries ≡ true
        from None there below cleared = absurd (omega arith)
        from (Some node) there below cleared = any_from_found numbers (λ e. list_any is_same (blocks_that is_cleared e)) after.nodes.entries number node there (node_from number node refl below cleared)

    pub cleared_are_in_ranges : (pieces : List Piece) → ArePieces after pieces → block < block_count (file_size after number)
        → list_any is_same (cleared_blocks after) ≡ list_any (is_in_range block) (cleared_runs (file_size after number) (of_file number pieces))
    cleared_are_in_ranges pieces are below = tree_cleared below ∙ file_cleared (content_of (get after.nodes number)) (of_file number pieces) block (classes number after pieces are) below
