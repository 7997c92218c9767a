-- The fill of a log: rows for the blocks that its right pieces write, and runs of the blocks that they
-- clear.
use Rattle.std.specs.Prelude.{◌≡◌, ℕ, ◌≤◌, List, length, map, Some, None, true}
use Rattle.kfs_model.specs.Entry.{Entry}
use Rattle.kfs_model.specs.Header.{Header}
use Rattle.kfs_model.specs.Judgement.{State}
use Rattle.kfs_model.specs.Machine.{are_chosen}
use Rattle.kfs_model.specs.Placement.{need, written_blocks}
use Rattle.kfs_model.specs.Plan.{ArePieces}
use Rattle.kfs_model.specs.PlanRow.{Piece}
use Rattle.kfs_model.specs.Run.{Mark}
use Rattle.kfs_model.specs.Table.{Table, numbers, get}
use Rattle.kfs_model.specs.Tree.{Tree, headers}
use Rattle.kfs_types.specs.declared.plan.NodeRow.{NodeRow}
use Rattle.kfs_pieces.specs.declared.blocks.BlockRange.{BlockRange}
use Rattle.kfs_model.specs.Device.ShownTree.{DeviceImage, shown_tree}
use Rattle.kfs_image.specs.Tier.Unused.{unused_places}
use Rattle.kfs_image.specs.declared.blocks.fill.BlockRow.{BlockRow}
use Rattle.kfs_image.specs.declared.blocks.fill.BlockRun.{BlockRun}
use Rattle.kfs_image_nodes.specs.Change.{reheaded}
use Rattle.kfs_image_nodes.specs.declared.net.Net.{Net}
use Rattle.kfs_image.specs.declared.net.Fill.{Fill}
use Rattle.kfs_image.specs.Net.{CanApply, applied}
use Rattle.kfs_desk.specs.declared.fill.bytes.LogBytes.{LogBytes}
use Rattle.kfs_desk.specs.History.Least.{AreLeast}
use Rattle.kfs_desk.specs.Fill.Bytes.{entries_of, pieces_of}
use Rattle.kfs_desk.specs.Fill.Fill.{AreCleared, AreRowsOf}

-- the size in the header of this number, 0 where there is none
abbrev pub size_among : Table numbers Header → (number : ℕ) → ℕ
size_among heads number = elim (get heads number) [ None ↦ 0 | Some header ↦ header.size ]

-- the range as a run of blocks of this file
abbrev pub run_of : (number : ℕ) → BlockRange → BlockRun
run_of number range = record { number = number; first = range.first; end = range.end }

-- for each tree with these headers of which these are right pieces, these are the written blocks
abbrev pub AreWritten : Table numbers Header → List Piece → List (ℕ × ℕ) → Type 0
AreWritten heads pieces blocks = (marked_after : Tree Mark) → headers marked_after ≡ heads → ArePieces marked_after pieces → blocks ≡ written_blocks marked_after

-- for each such tree, of the blocks that its files have, the runs have exactly the cleared ones
abbrev pub AreMadeZero : Table numbers Header → List Piece → List BlockRun → Type 0
AreMadeZero heads pieces zero =
    (after : Tree ℕ) (marked_after : Tree Mark) → headers after ≡ heads → headers marked_after ≡ heads → ArePieces marked_after pieces → AreCleared after marked_after zero

-- the places of the rows, as numbers on their tiers
abbrev pub places_of : {A : Type 0} → List (BlockRow A) → List ℕ
places_of rows = map (λ r. r.place.place) rows

-- the rows are those of the written blocks, at places that can be chosen for them, the least that are
-- free; and the runs have the cleared blocks
pub record Fills {A : Type 0} (s : State) (entries : List Entry) (pieces : List Piece) (after : Tree ℕ) (marked_after : Tree Mark) (fill : Fill A) : Type 0 where
  pub chosen : are_chosen s (written_blocks marked_after) (places_of fill.rows.items) ≡ true
  pub least : AreLeast s (places_of fill.rows.items)
  pub rows : AreRowsOf s.tree entries pieces (written_blocks marked_after) (places_of fill.rows.items) fill.rows.items
  pub cleared : AreCleared after marked_after fill.zero.items

-- Take any run of the log from the state that the image shows. If the pieces are right for it, the node
-- rows lead to its headers, and there is room for its written blocks, then the fill is right for it.
abbrev pub IsFillOf : {A : Type 0} → DeviceImage → LogBytes A → List NodeRow → Fill A → Type 0
IsFillOf image log nodes fill =
    (s : State) (after : Tree ℕ) (marked_after : Tree Mark) → s.tree ≡ shown_tree image → s.placement ≡ image.placement → s.sizes ≡ image.sizes
    → headers marked_after ≡ headers after → reheaded image.heads nodes ≡ headers after → ArePieces marked_after (pieces_of log)
    → need marked_after ≤ length (unused_places image.sizes image.placement 0) → Fills s (entries_of log) (pieces_of log) after marked_after fill

-- the net can be applied with any right fill of the log
abbrev pub CanLandWith : {A : Type 0} → DeviceImage → LogBytes A → Net A (List ℕ) → Type 0
CanLandWith {A} image log net = (fill : Fill A) → IsFillOf image log net.nodes.items fill → CanApply net fill image

-- the net was applied, with a right fill of the log
pub record HasLandedWith {A : Type 0} (old : DeviceImage) (log : LogBytes A) (net : Net A (List ℕ)) (new : DeviceImage) : Type 0 where
  pub fill : Fill A
  pub is : IsFillOf old log net.nodes.items fill
  pub made : new ≡ applied net fill old
