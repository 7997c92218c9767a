-- Runs of blocks as extents.
use Rattle.std.specs.Prelude.{◌≡◌, ℕ, ◌+◌, ◌-◌, ◌*◌, ◌==◌, ◌&&◌, Bool, List, ◌∷◌, ◌++◌, length, map, take, drop, replicate}
use Rattle.std.specs.declared.ops.Bound.{Bound}
use Rattle.std.specs.declared.ops.Bound.TheVariants.{Excluded}
use Rattle.kfs_model.specs.Limits.{block_size}
use Rattle.kfs_model.specs.Table.{get}
use Rattle.kfs_model.specs.Tree.{Tree, content_of}
use Rattle.kfs_model.specs.Placement.{Place}
use Rattle.kfs_model.specs.Device.ShownTree.{DeviceImage, shown_tree}
use Rattle.kfs_model.specs.Device.RawImage.{ExtentRow}
use Rattle.kfs_model.specs.Device.Canonical.{block_extent, with_extent, joined_extents}
use Rattle.kfs_image.specs.declared.encode.run.Run.{Run}
use Rattle.kfs_image.specs.Encode.Rows.{entries_from}

-- the bytes, with zero bytes behind them up to a count
abbrev pub filled_to : (count : ℕ) → List ℕ → List ℕ
filled_to count bytes = bytes ++ replicate (count - length bytes) 0

-- so many bytes of a file from a position on; those past the file's end are zero
abbrev pub part_of : (content : List ℕ) → (start count : ℕ) → List ℕ
part_of content start count = filled_to count (take count (drop start content))

-- the extent of a run's blocks
abbrev pub run_extent : Tree ℕ → Run → ExtentRow
run_extent tree run = record {
  number = run.number;
  block = run.block;
  tier = run.tier;
  place = run.place;
  count = run.more + 1;
  bytes = part_of (content_of (get tree.nodes run.number)) (run.block * block_size) ((run.more + 1) * block_size);
}

-- the run of one block
abbrev pub run_from : (ℕ × ℕ) × Place → Run
run_from entry = record { number = entry.0.0; block = entry.0.1; tier = entry.1.tier; place = entry.1.place; more = 0 }

-- the last block of a run
abbrev pub last_block : Run → ℕ × ℕ
last_block run = (run.number, run.block + run.more)

-- whether a block at a place goes on from the run
abbrev pub is_next : Run → (ℕ × ℕ) × Place → Bool
is_next run entry = (entry.0.0 == run.number) && (entry.0.1 == run.block + (run.more + 1)) && (entry.1.tier == run.tier) && (entry.1.place == run.place + (run.more + 1))

-- the block that goes on from the run
abbrev pub next_entry : Run → (ℕ × ℕ) × Place
next_entry run = ((run.number, run.block + (run.more + 1)), record { tier = run.tier; place = run.place + (run.more + 1) })

-- the extents of the blocks from a start on
abbrev pub extents_from : DeviceImage → Bound (ℕ × ℕ) → List ExtentRow
extents_from image start = joined_extents (map (block_extent (shown_tree image)) (entries_from start image.placement))

-- no block goes on from the run: its extent stands before those of the blocks behind
abbrev pub Ends : DeviceImage → Run → Type 0
Ends image run =
    with_extent (run_extent (shown_tree image) run) (extents_from image (Excluded (last_block run))) ≡ run_extent (shown_tree image) run ∷ extents_from image (Excluded (last_block run))
