-- Which blocks a log writes and clears, told by their marks; that none is listed twice; and the marks of a block that is neither.
use Rattle.std.proofs.Common.{◌≡◌, ◌≢◌, ℕ, zero, suc, ◌+◌, ◌-◌, ◌*◌, ◌/◌, ◌%◌, ◌<◌, ◌≤◌, ◌==◌, ◌&&◌, ◌||◌, Bool, true, false, cond, T, List, [], ◌∷◌, ◌++◌, length, take, drop, map, filter, get_or, Option, Some, None, refl, sym, ap, subst, ◌∙◌, ⊎_elim, arith}
use Rattle.std.specs.List.{list_any, flat_map}
use Rattle.std.specs.declared.cmp.Ordering.{Ordering}
use Rattle.std.specs.declared.cmp.Ordering.TheVariants.{Less, Equal, Greater}
use Rattle.std.specs.Ordering.{is_eq}
use Rattle.std.specs.Cmp.{tied_itself}
use Rattle.std.specs.FinMap.Entries.{find, is_sorted}
use Rattle.std.proofs.lemmas.Bool.{and_cases, and_from, and_left, and_parts, and_right, both_ways, cases_eq, eq-eqb, eqb-true, ne_eqb, or_from, or_parts}
use Rattle.std.proofs.Math.Bool.{or-false}
use Rattle.std.proofs.lemmas.List.{drop-drop, get_or-drop, get_or-take, length-drop, length-take}
use Rattle.std.proofs.lemmas.List.Folds.{list_any-append, list_any_at}
use Rattle.kfs_model.specs.Limits.{block_size}
use Rattle.kfs_model.specs.Table.{numbers, get}
use Rattle.kfs_model.specs.Tree.{Tree, Node, content_of}
use Rattle.kfs_model.specs.Run.{Mark, Zero}
use Rattle.kfs_model.specs.Plan.{is_base}
use Rattle.kfs_model.specs.Placement.{block_count, blocks_from, blocks_of, blocks_that, cleared_blocks, is_cleared, is_payload, is_written, is_zero, written_blocks}
use Rattle.kfs_pieces.proofs.BlockCounts.{block_at}
use Rattle.kfs_model.proofs.Tables.{find_below, left_part, right_part}

-- ---- blocks in a list

-- whether the other one is this block
abbrev pub is_same : ℕ × ℕ → ℕ × ℕ → Bool
is_same block other = (other.0 == block.0) && (other.1 == block.1)

pub is_same-itself : (block : ℕ × ℕ) → is_same block block ≡ true
is_same-itself block = and_from _ _ (eq-eqb block.0 block.0 refl) (eq-eqb block.1 block.1 refl)

pub same_is : (block other : ℕ × ℕ) → is_same block other ≡ true → other ≡ block
same_is block other is =
    let (of_file, of_block) = and_parts (other.0 == block.0) (other.1 == block.1) is in
    let number = eqb-true other.0 block.0 of_file in
    let at = eqb-true other.1 block.1 of_block in
    λ i. (number i, at i)

-- no block is listed twice
abbrev pub AreOnce : List (ℕ × ℕ) → Type 0
AreOnce [] = Unit {0}
AreOnce (block ∷ blocks) = (list_any (is_same block) blocks ≡ false) × AreOnce blocks

pub once_at : (blocks : List (ℕ × ℕ)) → AreOnce blocks → (i j : ℕ) (d : ℕ × ℕ) → i < j → j < length blocks → get_or blocks i d ≢ get_or blocks j d
once_at [] once i j d less below = absurd (omega (arith, below))
once_at (block ∷ blocks) once i zero d less below = absurd (omega (arith, less))
once_at (block ∷ blocks) once zero (suc j) d less below = λ same.
    both_ways (list_any (is_same block) blocks) once.0 (list_any_at (is_same block) blocks j d (omega (arith, below)) (subst (λ other. is_same block other ≡ true) same (is_same-itself block)))
once_at (block ∷ blocks) once (suc i) (suc j) d less below = once_at blocks once.1 i j d (omega (arith, less)) (omega (arith, below))

-- ---- the blocks of one file

first_settles : (passes : Bool) → ((passes && true) || false) ≡ passes
first_settles true = refl
first_settles false = refl

first_differs : (passes alike later : Bool) → ((passes && (alike && false)) || later) ≡ later
first_differs true true later = refl
first_differs true false later = refl
first_differs false alike later = refl

module _ (test : List Mark → Bool) (number : ℕ) where
  -- those that pass the test
  abbrev chosen : List (ℕ × List Mark) → List (ℕ × ℕ)
  chosen blocks = map (λ block. (number, block.0)) (filter (λ block. test block.1) blocks)

  one_more : (block : ℕ × ℕ) (x : ℕ × List Mark) (xs : List (ℕ × List Mark)) → list_any (is_same block) (chosen (x ∷ xs)) ≡ ((test x.1 && is_same block (number, x.0)) || list_any (is_same block) (chosen xs))
  one_more block x xs = at (test x.1)
    where
      at : (passes : Bool) → list_any (is_same block) (map (λ (block : ℕ × List Mark). (number, block.0)) (cond passes (x ∷ filter (λ block. test block.1) xs) (filter (λ block. test block.1) xs))) ≡ ((passes && is_same block (number, x.0)) || list_any (is_same block) (chosen xs))
      at true = refl
      at false = refl

  none_before : (count first block : ℕ) (marks : List Mark) → block < first → list_any (is_same (number, block)) (chosen (blocks_from count first marks)) ≡ false
  none_before zero first block marks less = refl
  none_before (suc count) first block marks less =
      one_more (number, block) (first, take block_size marks) (blocks_from count (first + 1) (drop block_size marks))
      ∙ or_from _ _
      (and_right (test (take block_size marks)) _ (and_right (number == number) (first == block) (ne_eqb first block (λ same. absurd (omega (arith, less, same))))))
      (none_before count (first + 1) block (drop block_size marks) (omega (arith, less)))

  -- a block is among those that pass exactly where its marks pass
  chosen_is : (count first block : ℕ) (marks : List Mark) → first ≤ block → block < first + count
      → list_any (is_same (number, block)) (chosen (blocks_from count first marks)) ≡ test (take block_size (drop (4096 * (block - first)) marks))
  chosen_is zero first block marks low high = absurd (omega (arith, low, high))
  chosen_is (suc count) first block marks low high =
      one_more (number, block) (first, take block_size marks) (blocks_from count (first + 1) (drop block_size marks))
      ∙ ⊎_elim here (later (λ low. chosen_is count (first + 1) block (drop block_size marks) low (omega (arith, high)))) (cases_eq first block)
    where
      passes : Bool
      passes = test (take block_size marks)

      others : Bool
      others = list_any (is_same (number, block)) (chosen (blocks_from count (first + 1) (drop block_size marks)))

      here : first ≡ block → ((passes && is_same (number, block) (number, first)) || others) ≡ test (take block_size (drop (4096 * (block - first)) marks))
      here same =
          let none : 4096 * (block - first) ≡ 0 = omega (arith, same) in
          let alike : is_same (number, block) (number, first) ≡ true = and_from _ _ (eq-eqb number number refl) (eq-eqb first block same) in
          let behind : others ≡ false = none_before count (first + 1) block (drop block_size marks) (omega (arith, same)) in
          (λ i. (passes && alike i) || behind i) ∙ first_settles passes ∙ ap (λ n. test (take block_size (drop n marks))) (sym none)

      later : (first + 1 ≤ block → others ≡ test (take block_size (drop (4096 * (block - (first + 1))) (drop block_size marks)))) → (first ≡ block → ⊥) → ((passes && is_same (number, block) (number, first)) || others) ≡ test (take block_size (drop (4096 * (block - first)) marks))
      later rest differs =
          let below : first + 1 ≤ block = grind (arith, differs, low) in
          let sum : 4096 + 4096 * (block - (first + 1)) ≡ 4096 * (block - first) = omega (arith, below) in
          ap (λ same. (passes && ((number == number) && same)) || others) (ne_eqb first block differs)
          ∙ first_differs passes (number == number) others
          ∙ rest below
          ∙ ap (λ rest. test (take block_size rest)) (drop-drop (4096 * (block - (first + 1))) 4096 marks ∙ ap (λ n. drop n marks) sum)

  none_of_other : (other block : ℕ) (xs : List (ℕ × List Mark)) → number ≢ other → list_any (is_same (other, block)) (chosen xs) ≡ false
  none_of_other other block [] differs = refl
  none_of_other other block (x ∷ xs) differs =
      one_more (other, block) x xs
      ∙ or_from _ _ (and_right (test x.1) _ (and_left (number == other) (x.0 == block) (ne_eqb number other differs))) (none_of_other other block xs differs)

  once_chosen : (count first : ℕ) (marks : List Mark) → AreOnce (chosen (blocks_from count first marks))
  once_chosen zero first marks = tt
  once_chosen (suc count) first marks = at (test (take block_size marks)) (none_before count (first + 1) first (drop block_size marks) (omega arith)) (once_chosen count (first + 1) (drop block_size marks))
    where
      rest : List (ℕ × List Mark)
      rest = blocks_from count (first + 1) (drop block_size marks)

      at : (passes : Bool) → list_any (is_same (number, first)) (chosen rest) ≡ false → AreOnce (chosen rest)
          → AreOnce (map (λ (block : ℕ × List Mark). (number, block.0)) (cond passes ((first, take block_size marks) ∷ filter (λ block. test block.1) rest) (filter (λ block. test block.1) rest)))
      at true none once = (none, once)
      at false none once = once

  once_before : (xs : List (ℕ × List Mark)) (ys : List (ℕ × ℕ)) → AreOnce (map (λ block. (number, block.0)) xs) → AreOnce ys → ((block : ℕ) → list_any (is_same (number, block)) ys ≡ false) → AreOnce (map (λ block. (number, block.0)) xs ++ ys)
  once_before [] ys once rest apart = rest
  once_before (x ∷ xs) ys once rest apart =
      (list_any-append (is_same (number, x.0)) (map (λ (block : ℕ × List Mark). (number, block.0)) xs) ys ∙ or_from _ _ once.0 (apart x.0), once_before xs ys once.1 rest apart)

-- ---- the blocks of all files

module _ (test : List Mark → Bool) (block : ℕ × ℕ) where
  -- whether it is listed, by the node that stands at its number
  abbrev in_found : Option (Node Mark) → Bool
  in_found None = false
  in_found (Some node) = list_any (is_same block) (blocks_that test (block.0, node))

  listed : (es : List (ℕ × Node Mark)) → T (is_sorted numbers.compare es) → list_any (is_same block) (flat_map (blocks_that test) es) ≡ in_found (find numbers.compare block.0 es)
  listed [] sorted = refl
  listed (e ∷ es) sorted = list_any-append (is_same block) (blocks_that test e) (flat_map (blocks_that test) es) ∙ at (numbers.compare block.0 e.0) refl (listed es (right_part _ _ sorted))
    where
      elsewhere : numbers.compare block.0 e.0 ≢ Equal → list_any (is_same block) (blocks_that test e) ≡ false
      elsewhere apart =
          none_of_other test e.0 block.0 block.1 (blocks_of (content_of (Some e.1)))
          (λ same. apart (subst (λ k. numbers.compare block.0 k ≡ Equal) (sym same) (tied_itself numbers.total block.0)))

      at : (o : Ordering) → numbers.compare block.0 e.0 ≡ o → list_any (is_same block) (flat_map (blocks_that test) es) ≡ in_found (find numbers.compare block.0 es)
          → (list_any (is_same block) (blocks_that test e) || list_any (is_same block) (flat_map (blocks_that test) es)) ≡ in_found (cond (is_eq o) (Some e.1) (find numbers.compare block.0 es))
      at Less is rest = λ i. elsewhere (λ tie. let never : Less ≡ Equal = sym is ∙ tie in cc) i || rest i
      at Equal is rest =
          let same : e.0 ≡ block.0 = sym (numbers.exact block.0 e.0 is) in
          let none : find numbers.compare block.0 es ≡ None = subst (λ k. find numbers.compare k es ≡ None) same (find_below numbers e.0 es (left_part _ _ sorted)) in
          (λ i. list_any (is_same block) (blocks_that test (same i, e.1)) || (rest ∙ ap in_found none) i) ∙ or-false (list_any (is_same block) (blocks_that test (block.0, e.1)))
      at Greater is rest = λ i. elsewhere (λ tie. let never : Greater ≡ Equal = sym is ∙ tie in cc) i || rest i

module _ (test : List Mark → Bool) where
  once_listed : (es : List (ℕ × Node Mark)) → T (is_sorted numbers.compare es) → AreOnce (flat_map (blocks_that test) es)
  once_listed [] sorted = tt
  once_listed (e ∷ es) sorted =
      let marks = content_of (Some e.1) in
      once_before test e.0 (filter (λ block. test block.1) (blocks_of marks)) (flat_map (blocks_that test) es)
      (once_chosen test e.0 (block_count (length marks)) 0 marks)
      (once_listed es (right_part _ _ sorted))
      (λ block. listed test (e.0, block) es (right_part _ _ sorted) ∙ ap (in_found test (e.0, block)) (find_below numbers e.0 es (left_part _ _ sorted)))

  listed_is : (t : Tree Mark) (number block : ℕ) → block < block_count (length (content_of (get t.nodes number)))
      → list_any (is_same (number, block)) (flat_map (blocks_that test) t.nodes.entries) ≡ test (block_at (content_of (get t.nodes number)) block)
  unfolding get
  listed_is t number block below = listed test (number, block) t.nodes.entries t.nodes.sorted ∙ at (get t.nodes number) below
    where
      at : (found : Option (Node Mark)) → block < block_count (length (content_of found)) → in_found test (number, block) found ≡ test (block_at (content_of found) block)
      at None below = absurd (omega (arith, below))
      at (Some node) below =
          let marks = content_of (Some node) in
          let whole : block - 0 ≡ block = omega arith in
          chosen_is test number (block_count (length marks)) 0 block marks (omega arith) (omega (arith, below)) ∙ ap (λ n. test (take block_size (drop (4096 * n) marks))) whole

module _ (t : Tree Mark) (number block : ℕ) (below : block < block_count (length (content_of (get t.nodes number)))) where
  pub written_is : list_any (is_same (number, block)) (written_blocks t) ≡ is_written (block_at (content_of (get t.nodes number)) block)
  unfolding written_blocks
  written_is = listed_is is_written t number block below

  pub cleared_is : list_any (is_same (number, block)) (cleared_blocks t) ≡ is_cleared (block_at (content_of (get t.nodes number)) block)
  unfolding cleared_blocks
  cleared_is = listed_is is_cleared t number block below

pub written_once : (t : Tree Mark) → AreOnce (written_blocks t)
unfolding written_blocks
written_once t = once_listed is_written t.nodes.entries t.nodes.sorted

-- ---- the marks of a block

is_zero-is : (mark : Mark) → is_zero mark ≡ true → mark ≡ Zero
is_zero-is (Mark.Base n p) is = cc
is_zero-is Mark.Zero is = refl
is_zero-is (Mark.Payload e p) is = cc

zero_at : (marks : List Mark) (j : ℕ) → is_cleared marks ≡ true → get_or marks j Zero ≡ Zero
zero_at [] j all = refl
zero_at (mark ∷ marks) zero all = is_zero-is mark (and_parts _ _ all).0
zero_at (mark ∷ marks) (suc j) all = zero_at marks j (and_parts _ _ all).1

some_base : (marks : List Mark) → list_any is_payload marks ≡ false → is_cleared marks ≡ false → list_any is_base marks ≡ true
some_base [] payload clear = cc
some_base (Mark.Base n p ∷ marks) payload clear = refl
some_base (Mark.Zero ∷ marks) payload clear = some_base marks payload clear
some_base (Mark.Payload e p ∷ marks) payload clear = cc

all_base : (marks : List Mark) (j : ℕ) → j < length marks → list_any is_payload marks ≡ false → list_any is_zero marks ≡ false → is_base (get_or marks j Zero) ≡ true
all_base [] j below payload none = absurd (omega (arith, below))
all_base (Mark.Base n p ∷ marks) zero below payload none = refl
all_base (Mark.Base n p ∷ marks) (suc j) below payload none = all_base marks j (omega (arith, below)) payload none
all_base (Mark.Zero ∷ marks) j below payload none = cc
all_base (Mark.Payload e p ∷ marks) j below payload none = cc

base_at : (marks : List Mark) (j : ℕ) → j < length marks → is_written marks ≡ false → is_cleared marks ≡ false → is_base (get_or marks j Zero) ≡ true
base_at marks j below unwritten uncleared =
    let (payload, sides) = or_parts (list_any is_payload marks) (list_any is_zero marks && list_any is_base marks) unwritten in
    all_base marks j below payload (⊎_elim (λ none. none) (λ no_base. absurd (both_ways _ no_base (some_base marks payload uncleared))) (and_cases (list_any is_zero marks) (list_any is_base marks) sides))

-- a byte's mark in its block
module _ (marks : List Mark) (place : ℕ) (below : place < length marks) where
  in_block : get_or (block_at marks (place / block_size)) (place % block_size) Zero ≡ get_or marks place Zero
  in_block =
      let small : place % 4096 < 4096 = omega arith in
      let sum : 4096 * (place / 4096) + place % 4096 ≡ place = omega arith in
      get_or-take 4096 (drop (4096 * (place / 4096)) marks) (place % 4096) Zero small
      ∙ get_or-drop (4096 * (place / 4096)) marks (place % 4096) Zero
      ∙ ap (λ n. get_or marks n Zero) sum

  inside_block : place % block_size < length (block_at marks (place / block_size))
  inside_block =
      let long = length-take 4096 (drop (4096 * (place / 4096)) marks) in
      let rest = length-drop (4096 * (place / 4096)) marks in
      omega (arith, long, rest, below)

  -- in a block that is cleared the byte is made zero
  pub cleared_mark : is_cleared (block_at marks (place / block_size)) ≡ true → get_or marks place Zero ≡ Zero
  cleared_mark cleared = sym in_block ∙ zero_at (block_at marks (place / block_size)) (place % block_size) cleared

  -- in one that is neither written nor cleared it is as it was before
  pub kept_mark : is_written (block_at marks (place / block_size)) ≡ false → is_cleared (block_at marks (place / block_size)) ≡ false → is_base (get_or marks place Zero) ≡ true
  kept_mark unwritten uncleared = ap is_base (sym in_block) ∙ base_at (block_at marks (place / block_size)) (place % block_size) inside_block unwritten uncleared
