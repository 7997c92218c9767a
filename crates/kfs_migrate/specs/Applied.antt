-- What moves do to an image.
use Rattle.std.specs.Prelude.{◌≡◌, ℕ, ◌+◌, ◌*◌, ◌<◌, false, All, List, [], ◌∷◌, ◌++◌, length, get_or, Some, Vec}
use Rattle.std.specs.List.{list_any}
use Rattle.kfs_model.specs.Limits.{block_size}
use Rattle.kfs_model.specs.Migration.{Move, has_target, moved_by}
use Rattle.kfs_model.specs.Placement.{Place}
use Rattle.kfs_model.specs.Table.{get}
use Rattle.kfs_model.specs.Device.Device.{AreBlocks}
use Rattle.kfs_model.specs.Device.ShownTree.{DeviceImage, file_byte}
use Rattle.kfs_image.specs.declared.edit.Edit.{Edit}
use Rattle.kfs_image.specs.declared.edit.Edit.TheVariants.{Map, Bytes}
use Rattle.kfs_image.specs.Edit.{edited_all, WritesWholeBlocks}

-- each block that moves lies at its target, and each byte of a file is what it was; nothing else changes,
-- on the devices neither
pub record AreApplied (moves : List Move) (old new : DeviceImage) : Type 0 where
  pub sizes : new.sizes ≡ old.sizes
  pub heads : new.heads ≡ old.heads
  pub names : new.names ≡ old.names
  pub placement : new.placement ≡ moved_by moves old.placement
  pub bytes : (number position : ℕ) → file_byte new.placement new.devices number position ≡ file_byte old.placement old.devices number position
  pub others : (place : Place) → list_any (has_target place) moves ≡ false → get new.devices (place.tier, place.place) ≡ get old.devices (place.tier, place.place)

-- the bytes of the block that moves, those past the file's end too
pub record AreBytesOf (image : DeviceImage) (m : Move) (bytes : List ℕ) : Type 0 where
  pub many : length bytes ≡ block_size
  pub each : (k : ℕ) → k < block_size → get_or bytes k 0 ≡ file_byte image.placement image.devices m.number (m.block * block_size + k)

-- a whole block of bytes that are the block's was written at the move's target
pub record IsWritten (image : DeviceImage) (m : Move) (new : DeviceImage) : Type 0 where
  pub block : List ℕ
  pub there : get new.devices (m.target.tier, m.target.place) ≡ Some block
  pub bytes : AreBytesOf image m block

-- the image is this one after some moves, none of which overlaps another one
pub record IsAfterMoves (image : DeviceImage) (moves : List Move) (new : DeviceImage) : Type 0 where
  pub sizes : new.sizes ≡ image.sizes
  pub heads : new.heads ≡ image.heads
  pub names : new.names ≡ image.names
  pub placement : new.placement ≡ moved_by moves image.placement
  pub written : All (λ m. IsWritten image m new) moves
  pub others : (place : Place) → list_any (has_target place) moves ≡ false → get new.devices (place.tier, place.place) ≡ get image.devices (place.tier, place.place)
  pub blocks : AreBlocks image.sizes new.devices

module _ {A : Type 0} where
  -- the edits make the moves, and the blocks that they write are whole
  pub record AreEditsOf (image : DeviceImage) (moves : List Move) (edits : List (Edit A)) : Type 0 where
    pub made : IsAfterMoves image moves (edited_all edits image)
    pub whole : All (WritesWholeBlocks image.sizes) edits

  -- two edits were added: the block lies at its target, and its bytes are there
  pub record AddsEdits (image : DeviceImage) (m : Move) (old new : List (Edit A)) : Type 0 where
    pub block : Vec ℕ A
    pub bytes : AreBytesOf image m block.items
    pub added : new ≡ old ++ Map m.number m.block (Some (m.target.tier, m.target.place)) ∷ Bytes m.target.tier m.target.place block ∷ []
