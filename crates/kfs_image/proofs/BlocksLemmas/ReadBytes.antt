-- The bytes of a file by its blocks.
use Rattle.std.proofs.Common.{◌≡◌, ℕ, ◌+◌, ◌*◌, ◌/◌, ◌%◌, ◌<◌, Some, None, Option, refl, sym, ap, ◌∙◌, arith}
use Rattle.kfs_model.specs.Limits.{block_size}
use Rattle.kfs_model.specs.Table.{get}
use Rattle.kfs_model.specs.Placement.{Place, Placement}
use Rattle.kfs_model.specs.Device.Device.{Devices, byte_on}
use Rattle.kfs_model.specs.Device.ShownTree.{file_byte}

module _ (placement : Placement) (devices : Devices) (number block offset : ℕ) (within : offset < block_size) where
  -- a byte by what its block has
  byte_at : Option Place → ℕ
  byte_at None = 0
  byte_at (Some place) = byte_on devices place offset

  byte_in_block : file_byte placement devices number (block * block_size + offset) ≡ byte_at (get placement (number, block))
  unfolding byte_at
  byte_in_block =
      let same_block : (block * block_size + offset) / block_size ≡ block = omega (arith, within) in
      let same_offset : (block * block_size + offset) % block_size ≡ offset = omega (arith, within) in
      ap (λ n. elim (get placement (number, n)) as (λ _. ℕ) [ None ↦ 0 | Some place ↦ byte_on devices place ((block * block_size + offset) % block_size) ]) same_block
      ∙ ap (λ o. elim (get placement (number, block)) as (λ _. ℕ) [ None ↦ 0 | Some place ↦ byte_on devices place o ]) same_offset
      ∙ by_place (get placement (number, block))
    where
      by_place : (slot : Option Place) → elim slot as (λ _. ℕ) [ None ↦ 0 | Some place ↦ byte_on devices place offset ] ≡ byte_at slot
      by_place None = refl
      by_place (Some place) = refl

  pub byte_mapped : (place : Place) → get placement (number, block) ≡ Some place → byte_on devices place offset ≡ file_byte placement devices number (block * block_size + offset)
  unfolding byte_at
  byte_mapped place there = sym (byte_in_block ∙ ap byte_at there)

  pub byte_unmapped : get placement (number, block) ≡ None → 0 ≡ file_byte placement devices number (block * block_size + offset)
  unfolding byte_at
  byte_unmapped none = sym (byte_in_block ∙ ap byte_at none)
