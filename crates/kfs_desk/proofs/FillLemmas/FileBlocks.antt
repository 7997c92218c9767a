-- The blocks of all files, as pieces write and clear them, are those of the first file's pieces and those of the pieces behind them.
use Rattle.std.proofs.Common.{◌≡◌, ℕ, zero, suc, ◌+◌, ◌<◌, ◌≤◌, ◌==◌, ◌++◌, ◌-◌, ◌/◌, ◌&&◌, ◌||◌, max, inl, inr, ⊎_elim, Bool, true, false, cond, T, List, [], ◌∷◌, length, take, drop, map, flat_map, Option, Some, None, slice_get, get_or, refl, sym, ap, subst, ◌∙◌, arith, eqb-true, leb, ltb, leb-true, ltb-true}
use Rattle.std.specs.List.{list_any, AllByRecursion}
use Rattle.std.specs.declared.cmp.Ordering.{Ordering}
use Rattle.std.specs.declared.cmp.Ordering.TheVariants.{Less, Equal, Greater}
use Rattle.std.specs.FinMap.Entries.{below_all, find, is_sorted}
use Rattle.std.specs.Ordering.{eq_by_cmp, is_lt, nat_cmp}
use Rattle.std.proofs.Math.Bool.{or-false}
use Rattle.std.proofs.lemmas.Bool.{both_ways, eq-eqb, eqb-false, ne_eqb}
use Rattle.std.proofs.lemmas.Cmp.{ranked}
use Rattle.std.proofs.lemmas.List.{append-nil, append_assoc}
use Rattle.std.proofs.lemmas.List.Folds.{list_any-append}
use Rattle.kfs_pieces.specs.TouchedBlocks.{BlockInterval, of_file, touches}
use Rattle.kfs_model.specs.Header.{Header}
use Rattle.kfs_model.specs.LastCover.{file_size}
use Rattle.kfs_model.specs.Placement.{block_count, numbers_from}
use Rattle.kfs_model.specs.Plan.{ArePieces, PiecesAscend, IsTrueOf, mark_of_source}
use Rattle.kfs_model.specs.PlanRow.{Piece}
use Rattle.kfs_model.specs.Run.{Mark}
use Rattle.kfs_model.specs.Sight.{is_file}
use Rattle.kfs_model.specs.Table.{Table, numbers, get}
use Rattle.kfs_model.specs.Tree.{Tree, Node, content_of, headers}
use Rattle.kfs_model.proofs.Heads.{size_is_extent}
use Rattle.kfs_model.proofs.NameTable.{ties_decide}
use Rattle.kfs_model.proofs.Tables.{find_below, left_part, right_part}
use Rattle.kfs_types.specs.Views.{piece_of}
use Rattle.kfs_types.specs.declared.plan.Piece.{Piece as CodePiece}
use Rattle.kfs_pieces.specs.BlockLists.{cleared_from, cleared_runs, is_in_range, listed, node_written, whole_until}
use Rattle.kfs_pieces.specs.Parts.{AreByNumber, front_len}
use Rattle.kfs_pieces.specs.declared.blocks.BlockRange.{BlockRange}
use Rattle.kfs_pieces.proofs.ClearedRuns.{cleared_are_in_ranges}
use Rattle.kfs_pieces.proofs.FileParts.{behind_front, not_of}
use Rattle.kfs_pieces.proofs.Lists.{all_at, all_drop}
use Rattle.kfs_pieces.proofs.WrittenLists.{written_are_listed}
use Rattle.kfs_image.specs.declared.blocks.fill.BlockRun.{BlockRun}
use Rattle.kfs_image.specs.Blocks.Fill.{is_in, is_in_one}
use Rattle.kfs_image.specs.Net.{blocks_in, is_block}
use Rattle.kfs_desk.specs.Fill.Bytes.{BlocksAscend}
use Rattle.kfs_desk.specs.Fill.FillOf.{AreMadeZero, AreWritten, run_of, size_among}

-- ---- the pieces of one file, and those of the others

own_front : (n : ℕ) (ps : List CodePiece) → AreByNumber n ps → of_file n (map piece_of ps) ≡ map piece_of (take (front_len n ps) ps)
own_front n [] order = refl
own_front n (p ∷ ps) order = at (p.number == n) refl (λ same. own_front n ps (subst (λ m. AreByNumber m ps) same order.1))
  where
    at : (b : Bool) → (p.number == n) ≡ b → (p.number ≡ n → of_file n (map piece_of ps) ≡ map piece_of (take (front_len n ps) ps))
        → cond b (piece_of p ∷ of_file n (map piece_of ps)) (of_file n (map piece_of ps)) ≡ map piece_of (take (cond b (suc (front_len n ps)) 0) (p ∷ ps))
    at true is more = ap (λ rs. piece_of p ∷ rs) (more (eqb-true p.number n is))
    at false is more =
        let low = order.0 in
        let apart = eqb-false p.number n is in
        not_of n p.number ps (omega arith) order.1

other_front : (n k : ℕ) → (n ≡ k → ⊥) → (ps : List CodePiece) → of_file k (map piece_of ps) ≡ of_file k (map piece_of (drop (front_len n ps) ps))
other_front n k apart [] = refl
other_front n k apart (p ∷ ps) = at (p.number == n) refl (other_front n k apart ps)
  where
    at : (b : Bool) → (p.number == n) ≡ b → of_file k (map piece_of ps) ≡ of_file k (map piece_of (drop (front_len n ps) ps))
        → of_file k (map piece_of (p ∷ ps)) ≡ of_file k (map piece_of (drop (cond b (suc (front_len n ps)) 0) (p ∷ ps)))
    at true is more =
        ap (λ b. cond b (piece_of p ∷ of_file k (map piece_of ps)) (of_file k (map piece_of ps))) (ne_eqb p.number k (λ same. apart (sym (eqb-true p.number n is) ∙ same)))
        ∙ more
    at false is more = refl

none_behind : (n : ℕ) (ps : List CodePiece) → AreByNumber n ps → of_file n (map piece_of (drop (front_len n ps) ps)) ≡ []
none_behind n ps order = not_of n (n + 1) (drop (front_len n ps) ps) (omega arith) (behind_front n ps order)

-- ascending pieces stand in the order of their files' numbers
by_number_from : (least : ℕ) (p : CodePiece) (ps : List CodePiece) → least ≤ p.number → PiecesAscend (map piece_of (p ∷ ps)) → AreByNumber least (p ∷ ps)
by_number_from least p [] low ascend = (low, tt)
by_number_from least p (q ∷ ps) low ascend = (low, by_number_from p.number q ps (⊎_elim (λ (less : p.number < q.number). omega arith) (λ same. let number = same.0 in omega arith) ascend.0) ascend.1)

pub by_number : (ps : List CodePiece) → PiecesAscend (map piece_of ps) → AreByNumber 0 ps
by_number [] ascend = tt
by_number (p ∷ ps) ascend = by_number_from 0 p ps (omega arith) ascend

-- ---- the written blocks of a table of nodes

no_blocks : (pieces : List Piece) (e : ℕ × Node Mark) → of_file e.0 pieces ≡ [] → node_written pieces e ≡ []
unfolding touches listed
no_blocks pieces e none = ap (λ rs. map (λ block. (e.0, block)) (listed 0 (touches (length (content_of (Some e.1))) 0 rs))) none

no_blocks_at_all : (es : List (ℕ × Node Mark)) → flat_map (node_written []) es ≡ []
no_blocks_at_all [] = refl
no_blocks_at_all (e ∷ es) = (λ i. no_blocks [] e refl i ++ no_blocks_at_all es i)

-- an entry behind a key has a greater one
found_above : (least n : ℕ) (es : List (ℕ × Node Mark)) (node : Node Mark) → T (below_all numbers.compare least es) → find numbers.compare n es ≡ Some node → least < n
found_above least n [] node below found = cc
found_above least n (e ∷ es) node below found = at (eq_by_cmp numbers.compare n e.0) refl found (found_above least n es node (right_part _ _ below))
  where
    less : (r : Ordering) → r ≡ nat_cmp least e.0 → T (is_lt r) → least < e.0
    less Less is t = ranked least e.0 Less is
    less Equal is t = absurd t
    less Greater is t = absurd t

    at : (b : Bool) → eq_by_cmp numbers.compare n e.0 ≡ b → cond b (Some e.1) (find numbers.compare n es) ≡ Some node → (find numbers.compare n es ≡ Some node → least < n) → least < n
    at true is found more = subst (λ m. least < m) (sym ((ties_decide numbers n e.0).0 is)) (less (nat_cmp least e.0) refl (left_part _ _ below))
    at false is found more = more found

module _ (n : ℕ) (ps : List CodePiece) (order : AreByNumber n ps) where
  abbrev all : List Piece
  all = map piece_of ps

  abbrev behind : List Piece
  behind = map piece_of (drop (front_len n ps) ps)

  others : (es : List (ℕ × Node Mark)) → find numbers.compare n es ≡ None → flat_map (node_written all) es ≡ flat_map (node_written behind) es
  others [] none = refl
  others (e ∷ es) none = at (eq_by_cmp numbers.compare n e.0) refl none (others es)
    where
      at : (b : Bool) → eq_by_cmp numbers.compare n e.0 ≡ b → cond b (Some e.1) (find numbers.compare n es) ≡ None
          → (find numbers.compare n es ≡ None → flat_map (node_written all) es ≡ flat_map (node_written behind) es)
          → node_written all e ++ flat_map (node_written all) es ≡ node_written behind e ++ flat_map (node_written behind) es
      at true is none more = cc
      at false is none more =
          let apart : n ≡ e.0 → ⊥ = λ same. both_ways _ is ((ties_decide numbers n e.0).1 same) in
          λ i. map (λ block. (e.0, block)) (listed 0 (touches (length (content_of (Some e.1))) 0 (other_front n e.0 apart ps i))) ++ more none i

  -- the file is a node: its blocks come first
  one_file : (es : List (ℕ × Node Mark)) → T (is_sorted numbers.compare es) → (node : Node Mark) → find numbers.compare n es ≡ Some node
      → flat_map (node_written all) es ≡ map (λ block. (n, block)) (listed 0 (touches (length (content_of (Some node))) 0 (map piece_of (take (front_len n ps) ps)))) ++ flat_map (node_written behind) es
  one_file [] sorted node found = cc
  one_file (e ∷ es) sorted node found = at (eq_by_cmp numbers.compare n e.0) refl found (one_file es (right_part _ _ sorted) node)
    where
      own : List (ℕ × ℕ)
      own = map (λ block. (n, block)) (listed 0 (touches (length (content_of (Some node))) 0 (map piece_of (take (front_len n ps) ps))))

      at : (b : Bool) → eq_by_cmp numbers.compare n e.0 ≡ b → cond b (Some e.1) (find numbers.compare n es) ≡ Some node
          → (find numbers.compare n es ≡ Some node → flat_map (node_written all) es ≡ own ++ flat_map (node_written behind) es)
          → node_written all e ++ flat_map (node_written all) es ≡ own ++ (node_written behind e ++ flat_map (node_written behind) es)
      at true is found more =
          let same = (ties_decide numbers n e.0).0 is in
          let value : e.1 ≡ node = cc in
          let none : find numbers.compare n es ≡ None = subst (λ k. find numbers.compare k es ≡ None) (sym same) (find_below numbers e.0 es (left_part _ _ sorted)) in
          let front : of_file e.0 all ≡ map piece_of (take (front_len n ps) ps) = ap (λ k. of_file k all) (sym same) ∙ own_front n ps order in
          let nothing = no_blocks behind e (ap (λ k. of_file k behind) (sym same) ∙ none_behind n ps order) in
          (λ i. map (λ block. (sym same i, block)) (listed 0 (touches (length (content_of (Some (value i)))) 0 (front i))) ++ others es none i)
          ∙ ap (λ blocks. own ++ (blocks ++ flat_map (node_written behind) es)) (sym nothing)
      at false is found more =
          let before = found_above e.0 n es node (left_part _ _ sorted) found in
          let apart : n ≡ e.0 → ⊥ = λ same. let b : ⊥ = omega arith in b in
          let none = not_of e.0 n ps before order in
          ap (λ blocks. blocks ++ flat_map (node_written all) es) (no_blocks all e none)
          ∙ more found
          ∙ ap (λ blocks. own ++ (blocks ++ flat_map (node_written behind) es)) (sym (no_blocks behind e (sym (other_front n e.0 apart ps) ∙ none)))

-- ---- the written blocks, file by file

-- each of the pieces is right
abbrev AreRight : Tree Mark → List CodePiece → Type 0
AreRight after ps = AllByRecursion (λ (p : CodePiece). IsTrueOf after (piece_of p)) ps

all_right : (after : Tree Mark) (ps : List CodePiece) → AllByRecursion (IsTrueOf after) (map piece_of ps) → AreRight after ps
all_right after [] said = tt
all_right after (p ∷ ps) said = (said.0, all_right after ps said.1)

node_there : (after : Tree Mark) (p : CodePiece) → IsTrueOf after (piece_of p) → (node : Node Mark) × (get after.nodes p.number ≡ Some node)
node_there after p right = at (get after.nodes p.number) refl (right.said 0 right.filled)
  where
    at : (found : Option (Node Mark)) → get after.nodes p.number ≡ found → slice_get (content_of found) (p.start + 0) ≡ Some (mark_of_source (piece_of p).source 0) → (node : Node Mark) × (get after.nodes p.number ≡ Some node)
    at None is stands = cc
    at (Some node) is stands = (node, is)

-- with those of the pieces that are left they are those of all pieces
abbrev pub AreListed : Table numbers Header → (pieces : List Piece) (blocks : List (ℕ × ℕ)) (rest : List CodePiece) → Type 0
AreListed heads pieces blocks rest = (after : Tree Mark) → headers after ≡ heads → ArePieces after pieces
    → (blocks ++ flat_map (node_written (map piece_of rest)) after.nodes.entries ≡ flat_map (node_written pieces) after.nodes.entries) × AreRight after rest

pub none_listed : (heads : Table numbers Header) (pieces : List CodePiece) → AreListed heads (map piece_of pieces) [] pieces
none_listed heads pieces after same are = (refl, all_right after pieces are.said)

pub all_listed : (heads : Table numbers Header) (pieces : List Piece) (blocks : List (ℕ × ℕ)) (rest : List CodePiece) → length rest ≤ 0 → AreListed heads pieces blocks rest → AreWritten heads pieces blocks
all_listed heads pieces blocks [] empty so_far after same are =
    sym (append-nil blocks)
    ∙ ap (λ more. blocks ++ more) (sym (no_blocks_at_all after.nodes.entries))
    ∙ (so_far after same are).0
    ∙ sym (written_are_listed after pieces are)
all_listed heads pieces blocks (p ∷ rest) empty so_far after same are = absurd (omega arith)

-- ---- the blocks in their order

-- no number is less than the one before it
abbrev Rises : (least : ℕ) → List ℕ → Type 0
Rises least [] = Unit {0}
Rises least (x ∷ xs) = (least ≤ x) × Rises x xs

rises_lower : (least later : ℕ) (xs : List ℕ) → least ≤ later → Rises later xs → Rises least xs
rises_lower least later [] low rises = tt
rises_lower least later (x ∷ xs) low rises = let above = rises.0 in (omega arith, rises.1)

-- numbers from m on, before others
rises_run : (count least m later : ℕ) (xs : List ℕ) → least ≤ m → least ≤ later → (0 < count → m + count ≤ later) → Rises later xs → Rises least (numbers_from m count ++ xs)
rises_run zero least m later xs low behind far rises = rises_lower least later xs behind rises
rises_run (suc count) least m later xs low behind far rises =
    let end = far (omega arith) in
    (low, rises_run count m (m + 1) later xs (omega arith) (omega arith) (λ some. omega arith) rises)

listed_rises : (next : ℕ) (rs : List BlockInterval) → Rises next (listed next rs)
unfolding listed
listed_rises next [] = tt
listed_rises next (r ∷ rs) =
    let m = max r.first next in
    rises_run (r.last + 1 - m) next m (max next (r.last + 1)) (listed (max next (r.last + 1)) rs) (omega arith) (omega arith) (λ some. omega arith) (listed_rises (max next (r.last + 1)) rs)

file_ascends : (n least : ℕ) (xs : List ℕ) → Rises least xs → BlocksAscend (map (λ block. (n, block)) xs)
file_ascends n least [] rises = tt
file_ascends n least (x ∷ []) rises = tt
file_ascends n least (x ∷ y ∷ xs) rises = (inr (refl, rises.1.0), file_ascends n x (y ∷ xs) rises.1)

-- each block is one of a file below this number
abbrev AreBelow : ℕ → List (ℕ × ℕ) → Type 0
AreBelow n blocks = AllByRecursion (λ (b : ℕ × ℕ). b.0 < n) blocks

both_ascend : (n : ℕ) (blocks : List (ℕ × ℕ)) (xs : List ℕ) → BlocksAscend blocks → AreBelow n blocks → BlocksAscend (map (λ block. (n, block)) xs) → BlocksAscend (blocks ++ map (λ block. (n, block)) xs)
both_ascend n [] xs ascend below later = later
both_ascend n (b ∷ []) [] ascend below later = tt
both_ascend n (b ∷ []) (x ∷ xs) ascend below later = (inl below.0, later)
both_ascend n (b ∷ c ∷ blocks) xs ascend below later = (ascend.0, both_ascend n (c ∷ blocks) xs ascend.1 below.1 later)

both_below : (n : ℕ) (blocks : List (ℕ × ℕ)) (xs : List ℕ) → AreBelow n blocks → AreBelow (n + 1) (blocks ++ map (λ block. (n, block)) xs)
both_below n [] [] below = tt
both_below n [] (x ∷ xs) below = (omega arith, both_below n [] xs below)
both_below n (b ∷ blocks) xs below = let here = below.0 in (omega arith, both_below n blocks xs below.1)

lower_below : (n m : ℕ) (blocks : List (ℕ × ℕ)) → n ≤ m → AreBelow n blocks → AreBelow m blocks
lower_below n m [] low below = tt
lower_below n m (b ∷ blocks) low below = let here = below.0 in (omega arith, lower_below n m blocks low below.1)

pub ascend_take : (n : ℕ) (blocks : List (ℕ × ℕ)) → BlocksAscend blocks → BlocksAscend (take n blocks)
ascend_take zero blocks ascend = tt
ascend_take (suc n) [] ascend = tt
ascend_take (suc zero) (b ∷ blocks) ascend = tt
ascend_take (suc (suc n)) (b ∷ []) ascend = tt
ascend_take (suc (suc n)) (b ∷ c ∷ blocks) ascend = (ascend.0, ascend_take (suc n) (c ∷ blocks) ascend.1)

-- the blocks ascend, those of the pieces that are left come behind them
pub record AreInOrder (blocks : List (ℕ × ℕ)) (rest : List CodePiece) : Type 0 where
  pub least : ℕ
  pub pieces : AreByNumber least rest
  pub below : AllByRecursion (λ (b : ℕ × ℕ). b.0 < least) blocks
  pub ascend : BlocksAscend blocks

pub none_in_order : (pieces : List CodePiece) → AreByNumber 0 pieces → AreInOrder [] pieces
none_in_order pieces order = record { least = 0; pieces = order; below = tt; ascend = tt }

from_first : (least : ℕ) (rest : List CodePiece) (d : CodePiece) → 0 < length rest → get_or rest 0 d ≡ d → AreByNumber least rest → (least ≤ d.number) × AreByNumber d.number rest
from_first least [] d some is order = absurd (omega arith)
from_first least (p ∷ ps) d some is order =
    subst (λ n. (least ≤ n) × ((n ≤ p.number) × AreByNumber p.number ps)) (ap (λ (p : CodePiece). p.number) is) (order.0, ((let same : p.number ≤ p.number = omega arith in same), order.1))

-- ---- the next file

module _ (rest : List CodePiece) (d : CodePiece) (some : 0 < length rest) (is : get_or rest 0 d ≡ d) (blocks new : List (ℕ × ℕ)) (in_order : AreInOrder blocks rest) where
  abbrev n : ℕ
  n = d.number

  abbrev left : List CodePiece
  left = drop (front_len n rest) rest

  from : (in_order.least ≤ n) × AreByNumber n rest
  from = from_first in_order.least rest d some is in_order.pieces

  pub next_in_order : (size : ℕ) → new ≡ blocks ++ map (λ block. (n, block)) (listed 0 (touches size 0 (map piece_of (take (front_len n rest) rest)))) → AreInOrder new left
  next_in_order size are =
      let xs = listed 0 (touches size 0 (map piece_of (take (front_len n rest) rest))) in
      let below = lower_below in_order.least n blocks from.0 in_order.below in
      record {
        least = n + 1;
        pieces = behind_front n rest from.1;
        below = subst (AreBelow (n + 1)) (sym are) (both_below n blocks xs below);
        ascend = subst BlocksAscend (sym are) (both_ascend n blocks xs in_order.ascend below (file_ascends n 0 xs (listed_rises 0 (touches size 0 (map piece_of (take (front_len n rest) rest))))));
      }

  pub next_listed : (heads : Table numbers Header) (pieces : List Piece) → new ≡ blocks ++ map (λ block. (n, block)) (listed 0 (touches (size_among heads n) 0 (map piece_of (take (front_len n rest) rest))))
      → AreListed heads pieces blocks rest → AreListed heads pieces new left
  unfolding get
  next_listed heads pieces are so_far after same right =
      let now = so_far after same right in
      let es = after.nodes.entries in
      let (node, there) = node_there after d (subst (λ (p : CodePiece). IsTrueOf after (piece_of p)) is (all_at (λ (p : CodePiece). IsTrueOf after (piece_of p)) rest 0 d some now.1)) in
      let size : size_among heads n ≡ length (content_of (Some node)) =
      ap (λ (t : Table numbers Header). size_among t n) (sym same) ∙ size_is_extent after n ∙ ap (λ (found : Option (Node Mark)). length (content_of found)) there in
      let own : ℕ → List (ℕ × ℕ) = λ s. map (λ block. (n, block)) (listed 0 (touches s 0 (map piece_of (take (front_len n rest) rest)))) in
      let later = flat_map (node_written (map piece_of left)) es in (
        ap (λ bs. bs ++ later) are
            ∙ append_assoc blocks (own (size_among heads n)) later
            ∙ ap (λ s. blocks ++ (own s ++ later)) size
            ∙ ap (λ bs. blocks ++ bs) (sym (one_file n rest from.1 es after.nodes.sorted node there))
            ∙ now.0,
        all_drop (λ (p : CodePiece). IsTrueOf after (piece_of p)) (front_len n rest) rest now.1,
      )

-- ---- the blocks made zero, file by file

none_whole : (size : ℕ) → whole_until size 0 ≡ 0
none_whole size = at (leb size 0) refl
  where
    at : (b : Bool) → leb size 0 ≡ b → cond b (block_count size) (0 / 4096) ≡ 0
    at true is = let empty = leb-true size 0 is in omega arith
    at false is = omega arith

no_ranges : (size : ℕ) → cleared_runs size [] ≡ []
unfolding cleared_from
no_ranges size = ap (λ end. cond (ltb (block_count 0) end) (record { first = block_count 0; end = end } ∷ []) []) (none_whole size)

-- the runs of a file have what its ranges have
in_own_runs : (n block : ℕ) (ranges : List BlockRange) → is_in_one (map (run_of n) ranges) (n, block) ≡ list_any (is_in_range block) ranges
in_own_runs n block [] = refl
in_own_runs n block (r ∷ rs) = (λ i. (eq-eqb n n refl i && is_in_range block r) || in_own_runs n block rs i)

in_other_runs : (n number block : ℕ) → (n ≡ number → ⊥) → (ranges : List BlockRange) → is_in_one (map (run_of n) ranges) (number, block) ≡ false
in_other_runs n number block apart [] = refl
in_other_runs n number block apart (r ∷ rs) = (λ i. (ne_eqb number n (λ same. apart (sym same)) i && is_in_range block r) || in_other_runs n number block apart rs i)

-- with the ranges of the pieces that are left the runs have what the ranges of all pieces have
abbrev pub AreZeroed : (size : ℕ → ℕ) (pieces : List Piece) (old : List BlockRun) (rest : List CodePiece) → Type 0
AreZeroed size pieces old rest = (number block : ℕ)
    → (is_in_one old (number, block) || list_any (is_in_range block) (cleared_runs (size number) (of_file number (map piece_of rest)))) ≡ list_any (is_in_range block) (cleared_runs (size number) (of_file number pieces))

pub none_zeroed : (size : ℕ → ℕ) (pieces : List CodePiece) → AreZeroed size (map piece_of pieces) [] pieces
none_zeroed size pieces number block = refl

module _ (rest : List CodePiece) (n : ℕ) (order : AreByNumber n rest) (size : ℕ → ℕ) (pieces : List Piece) (old new : List BlockRun)
    (are : new ≡ old ++ map (run_of n) (cleared_runs (size n) (map piece_of (take (front_len n rest) rest)))) where
  abbrev runs : List BlockRun
  runs = map (run_of n) (cleared_runs (size n) (map piece_of (take (front_len n rest) rest)))

  abbrev behind_it : List Piece
  behind_it = map piece_of (drop (front_len n rest) rest)

  both_runs : (block : ℕ × ℕ) → is_in_one new block ≡ (is_in_one old block || is_in_one runs block)
  both_runs block = ap (λ rs. is_in_one rs block) are ∙ list_any-append (λ run. is_in run block) old runs

  own_zeroed : (block : ℕ) → (is_in_one new (n, block) || list_any (is_in_range block) (cleared_runs (size n) (of_file n behind_it)))
      ≡ (is_in_one old (n, block) || list_any (is_in_range block) (cleared_runs (size n) (of_file n (map piece_of rest))))
  own_zeroed block =
      (λ i. both_runs (n, block) i || list_any (is_in_range block) ((ap (cleared_runs (size n)) (none_behind n rest order) ∙ no_ranges (size n)) i))
      ∙ or-false (is_in_one old (n, block) || is_in_one runs (n, block))
      ∙ ap (λ b. is_in_one old (n, block) || b) (in_own_runs n block (cleared_runs (size n) (map piece_of (take (front_len n rest) rest))))
      ∙ ap (λ rs. is_in_one old (n, block) || list_any (is_in_range block) (cleared_runs (size n) rs)) (sym (own_front n rest order))

  other_zeroed : (number block : ℕ) → (n ≡ number → ⊥) → (is_in_one new (number, block) || list_any (is_in_range block) (cleared_runs (size number) (of_file number behind_it)))
      ≡ (is_in_one old (number, block) || list_any (is_in_range block) (cleared_runs (size number) (of_file number (map piece_of rest))))
  other_zeroed number block apart =
      (λ i. both_runs (number, block) i || list_any (is_in_range block) (cleared_runs (size number) (sym (other_front n number apart rest) i)))
      ∙ ap (λ b. (is_in_one old (number, block) || b) || list_any (is_in_range block) (cleared_runs (size number) (of_file number (map piece_of rest))))
      (in_other_runs n number block apart (cleared_runs (size n) (map piece_of (take (front_len n rest) rest))))
      ∙ ap (λ b. b || list_any (is_in_range block) (cleared_runs (size number) (of_file number (map piece_of rest)))) (or-false (is_in_one old (number, block)))

  next_zeroed_at : AreZeroed size pieces old rest → AreZeroed size pieces new (drop (front_len n rest) rest)
  next_zeroed_at so_far number block = at (n == number) refl
    where
      at : (b : Bool) → (n == number) ≡ b → (is_in_one new (number, block) || list_any (is_in_range block) (cleared_runs (size number) (of_file number behind_it))) ≡ list_any (is_in_range block) (cleared_runs (size number) (of_file number pieces))
      at true is = subst
          (λ m. (is_in_one new (m, block) || list_any (is_in_range block) (cleared_runs (size m) (of_file m behind_it))) ≡ (is_in_one old (m, block) || list_any (is_in_range block) (cleared_runs (size m) (of_file m (map piece_of rest)))))
          (eqb-true n number is) (own_zeroed block)
          ∙ so_far number block
      at false is = other_zeroed number block (eqb-false n number is) ∙ so_far number block

pub next_zeroed : (rest : List CodePiece) (d : CodePiece) → 0 < length rest → get_or rest 0 d ≡ d → (blocks : List (ℕ × ℕ)) → AreInOrder blocks rest → (size : ℕ → ℕ) (pieces : List Piece) (old new : List BlockRun)
    → new ≡ old ++ map (run_of d.number) (cleared_runs (size d.number) (map piece_of (take (front_len d.number rest) rest))) → AreZeroed size pieces old rest → AreZeroed size pieces new (drop (front_len d.number rest) rest)
next_zeroed rest d some is blocks in_order size pieces old new are =
    next_zeroed_at rest d.number (from_first in_order.least rest d some is in_order.pieces).1 size pieces old new are

module _ (heads : Table numbers Header) where
  below_size : (block : ℕ) (found : Option Header) → block < blocks_in found → block < block_count (elim found [ None ↦ 0 | Some header ↦ header.size ])
  below_size block None below = absurd (omega (arith, below))
  below_size block (Some header) below = at (is_file (Some header)) below
    where
      at : (b : Bool) → block < cond b (block_count header.size) 0 → block < block_count header.size
      at true below = below
      at false below = absurd (omega (arith, below))

  pub all_zeroed : (pieces : List Piece) (old : List BlockRun) (rest : List CodePiece) → length rest ≤ 0 → AreZeroed (size_among heads) pieces old rest → AreMadeZero heads pieces old
  all_zeroed pieces old (p ∷ rest) empty so_far after marked_after same marked_same right block is = absurd (omega arith)
  all_zeroed pieces old [] empty so_far after marked_after same marked_same right block is =
      let number = block.0 in
      let size : file_size marked_after number ≡ size_among heads number = sym (size_is_extent marked_after number) ∙ ap (λ (t : Table numbers Header). size_among t number) marked_same in
      let below = below_size block.1 (get heads number) (ltb-true _ _ (ap (λ (t : Table numbers Header). is_block t block) (sym same) ∙ is)) in
      sym (or-false (is_in_one old block))
      ∙ ap (λ rs. is_in_one old block || list_any (is_in_range block.1) rs) (sym (no_ranges (size_among heads number)))
      ∙ so_far number block.1
      ∙ ap (λ s. list_any (is_in_range block.1) (cleared_runs s (of_file number pieces))) (sym size)
      ∙ sym (cleared_are_in_ranges number block.1 marked_after pieces right (subst (λ s. block.1 < block_count s) (sym size) below))
