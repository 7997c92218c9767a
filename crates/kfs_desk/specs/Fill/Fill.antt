-- The blocks that a landing writes, with their places and bytes, and the blocks that it clears.
use Rattle.std.specs.Prelude.{◌≡◌, ℕ, ◌+◌, ◌*◌, ◌==◌, ◌&&◌, All, List, map, Some, None, true}
use Rattle.std.specs.List.{list_any}
use Rattle.kfs_model.specs.Entry.{Entry}
use Rattle.kfs_model.specs.Limits.{block_size}
use Rattle.kfs_model.specs.PlanRow.{Piece}
use Rattle.kfs_model.specs.PlanCut.{mark_in_pieces}
use Rattle.kfs_model.specs.Placement.{below, in_first_tier, cleared_blocks}
use Rattle.kfs_model.specs.Run.{Mark, byte_at, byte_of}
use Rattle.kfs_model.specs.Table.{get}
use Rattle.kfs_model.specs.Tree.{Tree, content_of, headers}
use Rattle.kfs_image.specs.declared.blocks.fill.BlockRow.{BlockRow}
use Rattle.kfs_image.specs.declared.blocks.fill.BlockRun.{BlockRun}
use Rattle.kfs_image.specs.Blocks.Fill.{is_in_one}
use Rattle.kfs_image.specs.Net.{is_block}

-- the byte of a file at a position after a log: what the log's pieces say, else the old byte, and 0
-- behind the end
abbrev pub byte_after : Tree ℕ → List Entry → List Piece → (number position : ℕ) → ℕ
byte_after before entries pieces number position =
    elim (mark_in_pieces pieces number position) [ None ↦ byte_at (content_of (get before.nodes number)) position | Some mark ↦ byte_of before entries mark ]

-- the bytes of one block of a file after a log
abbrev pub block_after : Tree ℕ → List Entry → List Piece → (number block : ℕ) → List ℕ
block_after before entries pieces number block = map (λ k. byte_after before entries pieces number (block * block_size + k)) (below block_size)

-- the rows are these blocks in order, each with its place on tier 0 and its bytes after the log
pub record AreRowsOf {A : Type 0} (before : Tree ℕ) (entries : List Entry) (pieces : List Piece) (blocks : List (ℕ × ℕ)) (places : List ℕ) (rows : List (BlockRow A)) : Type 0 where
  pub keys : map (λ (r : BlockRow A). (r.number, r.block)) rows ≡ blocks
  pub laid : map (λ (r : BlockRow A). r.place) rows ≡ map in_first_tier places
  pub bytes : All (λ r. r.bytes.items ≡ block_after before entries pieces r.number r.block) rows

-- of the blocks that files have after the log, the runs have exactly the cleared ones
abbrev pub AreCleared : Tree ℕ → Tree Mark → List BlockRun → Type 0
AreCleared after marked_after zero =
    (block : ℕ × ℕ) → is_block (headers after) block ≡ true → is_in_one zero block ≡ list_any (λ other. (other.0 == block.0) && (other.1 == block.1)) (cleared_blocks marked_after)
