-- The blocks that a log writes are blocks of files, each below its file's size.
use Rattle.std.proofs.Common.{◌≡◌, ℕ, zero, suc, ◌+◌, ◌*◌, ◌<◌, Bool, true, false, cond, T, List, [], ◌∷◌, ◌++◌, length, take, drop, map, filter, Some, option_map, refl, ap, ◌∙◌, arith}
use Rattle.std.specs.List.{AllByRecursion, flat_map}
use Rattle.std.specs.FinMap.Entries.{find, is_sorted}
use Rattle.kfs_model.specs.Table.{Order, numbers, get}
use Rattle.kfs_model.specs.Tree.{Tree, Node, Body, FileBody, DirectoryBody, headers, node_header}
use Rattle.kfs_model.specs.Run.{Mark}
use Rattle.kfs_model.specs.Limits.{block_size}
use Rattle.kfs_model.specs.Placement.{IsBlock, block_count, blocks_from, blocks_that, is_written, written_blocks}
use Rattle.kfs_model.proofs.Heads.{get-headers}
use Rattle.kfs_model.proofs.Tables.{right_part, find_head, find_behind}

-- ---- what holds of each

pub all_more : {X : Type 0} (P Q : X → Type 0) → ((x : X) → P x → Q x) → (xs : List X) → AllByRecursion P xs → AllByRecursion Q xs
all_more P Q more [] all = tt
all_more P Q more (x ∷ xs) all = (more x all.0, all_more P Q more xs all.1)

pub all_append : {X : Type 0} (P : X → Type 0) (xs ys : List X) → AllByRecursion P xs → AllByRecursion P ys → AllByRecursion P (xs ++ ys)
all_append P [] ys all rest = rest
all_append P (x ∷ xs) ys all rest = (all.0, all_append P xs ys all.1 rest)

all_flat : {X Y : Type 0} (P : Y → Type 0) (f : X → List Y) (xs : List X) → AllByRecursion (λ x. AllByRecursion P (f x)) xs → AllByRecursion P (flat_map f xs)
all_flat P f [] all = tt
all_flat P f (x ∷ xs) all = all_append P (f x) (flat_map f xs) all.0 (all_flat P f xs all.1)

-- each entry of a table is found at its key
pub all_found : {K X : Type 0} (R : Order K) (es : List (K × X)) → T (is_sorted R.compare es) → AllByRecursion (λ e. find R.compare e.0 es ≡ Some e.1) es
all_found R [] sorted = tt
all_found {K} {X} R (e ∷ es) sorted = (
  find_head R e es,
  all_more (λ (o : K × X). find R.compare o.0 es ≡ Some o.1) (λ (o : K × X). find R.compare o.0 (e ∷ es) ≡ Some o.1) (λ o found. find_behind R o.0 o.1 e es sorted found) es (all_found R es (right_part _ _ sorted)),
)

-- ---- the blocks of one file

module _ (test : List Mark → Bool) (number : ℕ) where
  abbrev chosen : List (ℕ × List Mark) → List (ℕ × ℕ)
  chosen blocks = map (λ block. (number, block.0)) (filter (λ block. test block.1) blocks)

  -- of this file, below an end
  abbrev IsBelow : (end : ℕ) → ℕ × ℕ → Type 0
  IsBelow end block = (block.0 ≡ number) × (block.1 < end)

  all_below : (count first end : ℕ) (marks : List Mark) → first + count ≡ end → AllByRecursion (IsBelow end) (chosen (blocks_from count first marks))
  all_below zero first end marks ends = tt
  all_below (suc count) first end marks ends = at (test (take block_size marks)) (all_below count (first + 1) end (drop block_size marks) (omega arith))
    where
      at : (b : Bool) → AllByRecursion (IsBelow end) (chosen (blocks_from count (first + 1) (drop block_size marks)))
          → AllByRecursion (IsBelow end) (map (λ block. (number, block.0)) (cond b ((first, take block_size marks) ∷ filter (λ block. test block.1) (blocks_from count (first + 1) (drop block_size marks))) (filter (λ block. test block.1) (blocks_from count (first + 1) (drop block_size marks)))))
      at true rest = ((refl, omega arith), rest)
      at false rest = rest

-- a block below the count begins below the size
pub begins_below : (block size : ℕ) → block < block_count size → block * block_size < size
begins_below block size below = omega arith

-- ---- of a tree

module _ (t : Tree Mark) where
  abbrev IsOfTree : ℕ × ℕ → Type 0
  IsOfTree block = IsBlock (get (headers t)) block.0 block.1

  of_node : (test : List Mark → Bool) (n : ℕ) (node : Node Mark) → get t.nodes n ≡ Some node → AllByRecursion IsOfTree (blocks_that test (n, node))
  of_node test n node there = at node.body node.mode node.uid node.gid there
    where
      at : (body : Body Mark) (mode uid gid : ℕ) → get t.nodes n ≡ Some (record { mode = mode; uid = uid; gid = gid; body = body })
          → AllByRecursion IsOfTree (blocks_that test (n, record { mode = mode; uid = uid; gid = gid; body = body }))
      at DirectoryBody mode uid gid there = tt
      at (FileBody cells) mode uid gid there =
          let node : Node Mark = record { mode = mode; uid = uid; gid = gid; body = FileBody cells } in
          let count = block_count (length cells) in
          all_more (IsBelow test n count) IsOfTree
          (λ block is. record {
            header = node_header t.names block.0 node;
            shown = get-headers t block.0 ∙ ap (option_map (node_header t.names block.0)) (ap (get t.nodes) is.0 ∙ there);
            file = refl;
            begins = begins_below block.1 (length cells) is.1;
          })
          (blocks_that test (n, node)) (all_below test n count 0 count cells (omega arith))

  pub written_in_files : AllByRecursion (λ block. IsBlock (get (headers t)) block.0 block.1) (written_blocks t)
  unfolding written_blocks get
  written_in_files =
      all_flat IsOfTree (blocks_that is_written) t.nodes.entries
      (all_more (λ (e : ℕ × Node Mark). find numbers.compare e.0 t.nodes.entries ≡ Some e.1) (λ (e : ℕ × Node Mark). AllByRecursion IsOfTree (blocks_that is_written e)) (λ e found. of_node is_written e.0 e.1 found) t.nodes.entries (all_found numbers t.nodes.entries t.nodes.sorted))
