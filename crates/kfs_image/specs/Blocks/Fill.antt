-- What a landing does to the blocks of files: it unmaps some, and maps and writes others.
use Rattle.std.specs.Prelude.{◌≡◌, ℕ, ◌<◌, ◌==◌, ◌&&◌, not, nat_le, nat_lt, Bool, All, List, [], ◌∷◌, Some, vec_len}
use Rattle.std.specs.List.{list_any}
use Rattle.kfs_model.specs.Limits.{block_size}
use Rattle.kfs_model.specs.Table.{insert, retain, changed}
use Rattle.kfs_model.specs.Placement.{Place, Placement, tier_size, IsLaid}
use Rattle.kfs_model.specs.Device.Device.{Devices}
use Rattle.kfs_image.specs.declared.tier.tiers.NewBlock.{NewBlock}
use Rattle.kfs_image.specs.declared.blocks.fill.BlockRun.{BlockRun}
use Rattle.kfs_image.specs.declared.blocks.fill.BlockRow.{BlockRow}
use Rattle.kfs_image.specs.Blocks.Blocks.{BlocksShown}
use Rattle.kfs_image.specs.Blocks.Moves.{BlockEdit}

-- whether the block, given as file number and block, is in the run
abbrev pub is_in : BlockRun → ℕ × ℕ → Bool
is_in run block = (block.0 == run.number) && (nat_le run.first block.1 && nat_lt block.1 run.end)

-- whether the block is in one of the runs
abbrev pub is_in_one : List BlockRun → ℕ × ℕ → Bool
is_in_one runs block = list_any (λ run. is_in run block) runs

-- the placement without the blocks in these runs
abbrev pub less : List BlockRun → Placement → Placement
less runs placement = retain (λ block. not (is_in_one runs block)) placement

module _ {A : Type 0} where
  -- the placement with each row's block mapped to its place, row after row
  unfoldable pub mapped_by : List (BlockRow A) → Placement → Placement
  mapped_by [] placement = placement
  mapped_by (row ∷ rows) placement = mapped_by rows (changed placement (row.number, row.block) (Some row.place))

  -- the devices with each row's bytes written at its place, row after row
  unfoldable pub written_by : List (BlockRow A) → Devices → Devices
  written_by [] devices = devices
  written_by (row ∷ rows) devices = written_by rows (insert devices (row.place.tier, row.place.place) row.bytes.items)

  -- the placement after the runs' blocks are unmapped and the rows' blocks mapped
  abbrev pub placement_after : List BlockRun → List (BlockRow A) → Placement → Placement
  placement_after released rows placement = mapped_by rows (less released placement)

  -- the blocks after those in the runs are unmapped and the rows' are mapped and written
  abbrev pub filled : List BlockRun → List (BlockRow A) → BlocksShown → BlocksShown
  filled released rows blocks = record { sizes = blocks.sizes; placement = placement_after released rows blocks.placement; devices = written_by rows blocks.devices }

  -- After the fill each place is in its tier and holds one block at most. The rows' places are in their
  -- tiers, and their blocks are whole.
  pub record CanFill (blocks : BlocksShown) (released : List BlockRun) (rows : List (BlockRow A)) : Type 0 where
    pub laid : IsLaid blocks.sizes (placement_after released rows blocks.placement)
    pub in_tier : All (λ r. r.place.place < tier_size blocks.sizes r.place.tier) rows
    pub whole : All (λ r. vec_len r.bytes ≡ block_size) rows

  -- the edit of the placement that maps the row's block to its place
  abbrev pub row_edit : BlockRow A → BlockEdit
  row_edit row = record { key = (row.number, row.block); value = Some row.place }

  -- the part of a row that a block to be written has too: the place and the bytes
  abbrev pub row_part : BlockRow A → Place × List ℕ
  row_part row = (row.place, row.bytes.items)

  abbrev pub new_part : NewBlock A → Place × List ℕ
  new_part block = (block.place, block.bytes.items)
