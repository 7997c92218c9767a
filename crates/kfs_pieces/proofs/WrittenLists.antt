-- The written blocks of a run are those that its right pieces list.
use Rattle.std.proofs.Common.{◌≡◌, ℕ, zero, suc, ◌+◌, ◌-◌, ◌*◌, ◌<◌, ◌≤◌, ⊎_elim, max, Bool, true, false, cond, ◌&&◌, leb, List, [], ◌∷◌, ◌++◌, length, take, drop, map, filter, flat_map, Some, refl, sym, ap, subst, ◌∙◌, arith, drop-drop, length-append}
use Rattle.std.specs.List.{list_any, AllByRecursion}
use Rattle.std.proofs.lemmas.Bool.{or_left, or_right}
use Rattle.std.proofs.lemmas.Bool.Decides.{nat_tests}
use Rattle.std.proofs.lemmas.List.{drop_all, length-map}
use Rattle.kfs_pieces.specs.TouchedBlocks.{BlockInterval, counted, of_file, touches}
use Rattle.kfs_model.specs.Limits.{block_size}
use Rattle.kfs_model.specs.Placement.{is_written, block_count, blocks_from, blocks_of, blocks_that, numbers_from, written_blocks}
use Rattle.kfs_model.specs.Plan.{ArePieces}
use Rattle.kfs_model.specs.PlanRow.{Piece}
use Rattle.kfs_model.specs.Run.{Mark}
use Rattle.kfs_model.specs.Table.{numbers, get}
use Rattle.kfs_model.specs.Tree.{Tree, Node, content_of}
use Rattle.kfs_pieces.proofs.BlockCounts.{has_block, block_at, numbered, passes}
use Rattle.kfs_pieces.proofs.NeedCounted.{classes}
use Rattle.kfs_model.proofs.Tape.{below_or_not}
use Rattle.kfs_pieces.proofs.TouchedBlocks.{Classes, before_or_same, exact, file_count}
use Rattle.kfs_model.proofs.WrittenBlocks.{all_found}
use Rattle.kfs_pieces.specs.BlockLists.{listed, node_written}

-- ---- ascending numbers that pass a test

in_range_of_bytes : (f l k : ℕ) → f ≤ k → k < l + 1 → (leb f k && leb k l) ≡ true
in_range_of_bytes f l k low high = grind (arith, nat_tests)

module _ (p : ℕ → Bool) (bound : ℕ) where
  -- ascending from a number on, each below the bound and passing the test
  abbrev IsPicked : (first : ℕ) → List ℕ → Type 0
  IsPicked first [] = Unit {0}
  IsPicked first (x ∷ xs) = (first ≤ x) × (x < bound) × (p x ≡ true) × IsPicked (x + 1) xs

  picked_lower : (first later : ℕ) (xs : List ℕ) → first ≤ later → IsPicked later xs → IsPicked first xs
  picked_lower first later [] low picked = tt
  picked_lower first later (x ∷ xs) low picked = let least = picked.0 in (omega arith, picked.1, picked.2, picked.3)

  -- numbers from m on, before others
  picked_run : (count next m later : ℕ) (xs : List ℕ) → next ≤ m → next ≤ later → (0 < count → m + count ≤ later)
      → ((k : ℕ) → m ≤ k → k < m + count → (k < bound) × (p k ≡ true)) → IsPicked later xs → IsPicked next (numbers_from m count ++ xs)
  picked_run zero next m later xs low behind far pass picked = picked_lower next later xs behind picked
  picked_run (suc count) next m later xs low behind far pass picked =
      let end = far (omega arith) in
      let here = pass m (omega arith) (omega arith) in
      (low, here.0, here.1, picked_run count (m + 1) (m + 1) later xs (omega arith) (omega arith) (λ some. omega arith) (λ k least below. pass k (omega arith) (omega arith)) picked)

  later_part : (first x : ℕ) (xs : List ℕ) → first < x → IsPicked first (x ∷ xs) → IsPicked (first + 1) (x ∷ xs)
  later_part first x xs later picked = (omega arith, picked.1, picked.2, picked.3)

  same_first : (first x : ℕ) (xs : List ℕ) → x ≡ first → IsPicked first (x ∷ xs) → (p first ≡ true) × IsPicked (first + 1) xs
  same_first first x xs same picked = (ap p (sym same) ∙ picked.2, subst (λ n. IsPicked (n + 1) xs) same picked.3)

  picked_few : (count first : ℕ) (xs : List ℕ) → first + count ≡ bound → IsPicked first xs → length xs ≤ length (filter p (numbers_from first count))
  picked_few count first [] end picked = omega arith
  picked_few zero first (x ∷ xs) end picked = let low = picked.0 in let below = picked.1 in absurd (omega arith)
  picked_few (suc count) first (x ∷ xs) end picked = ⊎_elim
      (λ (later : first < x). more (p first) (picked_few count (first + 1) (x ∷ xs) (omega arith) (later_part first x xs later picked)))
      (λ (same : x ≡ first).
      let parts = same_first first x xs same picked in
      let few = picked_few count (first + 1) xs (omega arith) parts.1 in
      subst (λ b. suc (length xs) ≤ length (cond b (first ∷ filter p (numbers_from (first + 1) count)) (filter p (numbers_from (first + 1) count)))) (sym parts.0) (let one : suc (length xs) ≤ suc (length (filter p (numbers_from (first + 1) count))) = omega arith in one))
      (before_or_same first x picked.0)
    where
      more : (b : Bool) → suc (length xs) ≤ length (filter p (numbers_from (first + 1) count)) → suc (length xs) ≤ length (cond b (first ∷ filter p (numbers_from (first + 1) count)) (filter p (numbers_from (first + 1) count)))
      more true few = omega arith
      more false few = few

  -- as many as there are: all of them
  picked_all : (count first : ℕ) (xs : List ℕ) → first + count ≡ bound → IsPicked first xs → length xs ≡ length (filter p (numbers_from first count)) → xs ≡ filter p (numbers_from first count)
  picked_all zero first [] end picked long = refl
  picked_all zero first (x ∷ xs) end picked long = let low = picked.0 in let below = picked.1 in absurd (omega arith)
  picked_all (suc count) first xs end picked long = at (p first) refl xs picked long (λ ys. picked_all count (first + 1) ys (omega arith)) (λ ys. picked_few count (first + 1) ys (omega arith))
    where
      at : (b : Bool) → p first ≡ b → (xs : List ℕ) → IsPicked first xs → length xs ≡ length (cond b (first ∷ filter p (numbers_from (first + 1) count)) (filter p (numbers_from (first + 1) count)))
          → ((ys : List ℕ) → IsPicked (first + 1) ys → length ys ≡ length (filter p (numbers_from (first + 1) count)) → ys ≡ filter p (numbers_from (first + 1) count))
          → ((ys : List ℕ) → IsPicked (first + 1) ys → length ys ≤ length (filter p (numbers_from (first + 1) count)))
          → xs ≡ cond b (first ∷ filter p (numbers_from (first + 1) count)) (filter p (numbers_from (first + 1) count))
      at true passes [] picked long all few = absurd (omega arith)
      at true passes (x ∷ xs) picked long all few = ⊎_elim
          (λ (later : first < x). let under = few (x ∷ xs) (later_part first x xs later picked) in absurd (omega arith))
          (λ (same : x ≡ first). let parts = same_first first x xs same picked in λ i. same i ∷ all xs parts.1 (omega arith) i)
          (before_or_same first x picked.0)
      at false fails [] picked long all few = all [] tt long
      at false fails (x ∷ xs) picked long all few = ⊎_elim
          (λ (later : first < x). all (x ∷ xs) (later_part first x xs later picked) long)
          (λ (same : x ≡ first). let parts = same_first first x xs same picked in cc (parts.0, fails))
          (before_or_same first x picked.0)

  listed_picked : (rs : List BlockInterval) (next : ℕ) → ((k : ℕ) → list_any (has_block k) rs ≡ true → (k < bound) × (p k ≡ true)) → IsPicked next (listed next rs)
  unfolding listed
  listed_picked [] next pass = tt
  listed_picked (r ∷ rs) next pass =
      let m = max r.first next in
      picked_run (r.last + 1 - m) next m (max next (r.last + 1)) (listed (max next (r.last + 1)) rs) (omega arith) (omega arith) (λ some. omega arith)
      (λ k low below. pass k (or_left (has_block k r) (list_any (has_block k) rs) (in_range_of_bytes r.first r.last k (omega arith) (omega arith))))
      (listed_picked rs (max next (r.last + 1)) (λ k has. pass k (or_right (has_block k r) (list_any (has_block k) rs) has)))

-- ---- as many are listed as are counted

numbers_long : (first count : ℕ) → length (numbers_from first count) ≡ count
numbers_long first zero = refl
numbers_long first (suc count) = ap suc (numbers_long (first + 1) count)

listed_long : (next : ℕ) (rs : List BlockInterval) → length (listed next rs) ≡ counted next rs
unfolding listed counted
listed_long next [] = refl
listed_long next (r ∷ rs) =
    let m = max r.first next in
    length-append (numbers_from m (r.last + 1 - m)) (listed (max next (r.last + 1)) rs)
    ∙ (λ i. numbers_long m (r.last + 1 - m) i + listed_long (max next (r.last + 1)) rs i)

-- ---- the blocks of a file that pass a test

filter_same : (p q : ℕ → Bool) (count first : ℕ) → ((k : ℕ) → first ≤ k → p k ≡ q k) → filter p (numbers_from first count) ≡ filter q (numbers_from first count)
filter_same p q zero first same = refl
filter_same p q (suc count) first same =
    λ i. cond (same first (let e : first ≤ first = omega arith in e) i) (first ∷ filter_same p q count (first + 1) (λ k low. same k (omega arith)) i) (filter_same p q count (first + 1) (λ k low. same k (omega arith)) i)

module _ (test : List Mark → Bool) (n : ℕ) where
  abbrev test_at : (first : ℕ) → List Mark → ℕ → Bool
  test_at first marks k = test (take block_size (drop (4096 * (k - first)) marks))

  numbered_filter : (count first : ℕ) (marks : List Mark) → map (numbered n) (filter (passes test) (blocks_from count first marks)) ≡ map (λ k. (n, k)) (filter (test_at first marks) (numbers_from first count))
  numbered_filter zero first marks = refl
  numbered_filter (suc count) first marks =
      let here : 0 ≡ 4096 * (first - first) = omega arith in
      at (test (take block_size marks)) (numbered_filter count (first + 1) (drop block_size marks)
      ∙ ap (map (λ k. (n, k))) (filter_same (test_at (first + 1) (drop block_size marks)) (test_at first marks) count (first + 1)
      (λ k low. let sum : 4096 + 4096 * (k - (first + 1)) ≡ 4096 * (k - first) = omega arith in
      ap (λ xs. test (take block_size xs)) (drop-drop (4096 * (k - (first + 1))) 4096 marks ∙ ap (λ n. drop n marks) sum))))
      ∙ ap (λ d. map (λ k. (n, k)) (cond (test (take block_size (drop d marks))) (first ∷ filter (test_at first marks) (numbers_from (first + 1) count)) (filter (test_at first marks) (numbers_from (first + 1) count)))) here
    where
      at : (b : Bool) → map (numbered n) (filter (passes test) (blocks_from count (first + 1) (drop block_size marks))) ≡ map (λ k. (n, k)) (filter (test_at first marks) (numbers_from (first + 1) count))
          → map (numbered n) (cond b ((first, take block_size marks) ∷ filter (passes test) (blocks_from count (first + 1) (drop block_size marks))) (filter (passes test) (blocks_from count (first + 1) (drop block_size marks))))
          ≡ map (λ k. (n, k)) (cond b (first ∷ filter (test_at first marks) (numbers_from (first + 1) count)) (filter (test_at first marks) (numbers_from (first + 1) count)))
      at true rest = ap (λ xs. (n, first) ∷ xs) rest
      at false rest = rest

  -- the blocks of a file that pass a test, by their numbers
  pub blocks_by_number : (marks : List Mark) → map (numbered n) (filter (passes test) (blocks_of marks)) ≡ map (λ k. (n, k)) (filter (λ k. test (block_at marks k)) (numbers_from 0 (block_count (length marks))))
  blocks_by_number marks =
      numbered_filter (block_count (length marks)) 0 marks
      ∙ ap (map (λ k. (n, k))) (filter_same (test_at 0 marks) (λ k. test (block_at marks k)) (block_count (length marks)) 0
      (λ k low. let none : k - 0 ≡ k = omega arith in ap (λ j. test (take block_size (drop (4096 * j) marks))) none))

-- ---- of a file

written_below : (marks : List Mark) (k : ℕ) → is_written (block_at marks k) ≡ true → k < block_count (length marks)
written_below marks k written = ⊎_elim
    (λ (below : 4096 * k < length marks). omega arith)
    (λ (over : length marks ≤ 4096 * k).
    let none = ap (λ xs. is_written (take block_size xs)) (drop_all (4096 * k) marks over) in
    cc (none, written))
    (below_or_not (4096 * k) (length marks))

module _ (n : ℕ) (marks : List Mark) (rs : List Piece) (is : Classes marks 0 0 rs) where
  abbrev has_written : ℕ → Bool
  has_written k = is_written (block_at marks k)

  abbrev touched : List BlockInterval
  touched = touches (length marks) 0 rs

  pass : (k : ℕ) → list_any (has_block k) touched ≡ true → (k < block_count (length marks)) × (has_written k ≡ true)
  pass k has = let written = sym (exact n marks rs is k) ∙ has in (written_below marks k written, written)

  file_written : map (numbered n) (filter (passes is_written) (blocks_of marks)) ≡ map (λ k. (n, k)) (listed 0 touched)
  file_written =
      let bound = block_count (length marks) in
      let blocks = filter has_written (numbers_from 0 bound) in
      let from_none : 0 + bound ≡ bound = omega arith in
      let long : length (listed 0 touched) ≡ length blocks =
      listed_long 0 touched
      ∙ sym (file_count n marks rs is)
      ∙ ap length (blocks_by_number is_written n marks)
      ∙ length-map blocks (λ (k : ℕ). (n, k)) in
      blocks_by_number is_written n marks
      ∙ ap (map (λ k. (n, k))) (sym (picked_all has_written bound bound 0 (listed 0 touched) from_none (listed_picked has_written bound touched 0 pass) long))

-- ---- of a tree

module _ (after : Tree Mark) (pieces : List Piece) (are : ArePieces after pieces) where
  entries_written : (es : List (ℕ × Node Mark)) → AllByRecursion (λ (e : ℕ × Node Mark). get after.nodes e.0 ≡ Some e.1) es → flat_map (blocks_that is_written) es ≡ flat_map (node_written pieces) es
  entries_written [] found = refl
  entries_written (e ∷ es) found =
      let here = subst (λ o. Classes (content_of o) 0 0 (of_file e.0 pieces)) found.0 (classes e.0 after pieces are) in
      λ i. file_written e.0 (content_of (Some e.1)) (of_file e.0 pieces) here i ++ entries_written es found.1 i

  pub written_are_listed : written_blocks after ≡ flat_map (node_written pieces) after.nodes.entries
  unfolding written_blocks get
  written_are_listed = entries_written after.nodes.entries (all_found numbers after.nodes.entries after.nodes.sorted)
