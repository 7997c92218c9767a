use Rattle.std.proofs.Common.{◌≡◌, All, drop, map}
use Rattle.kfs_model.specs.Placement.{TierSizes}
use Rattle.kfs_model.specs.Device.ShownTree.{DeviceImage}
use Rattle.kfs_image.specs.Edit.{edited_all, WritesWholeBlocks}
use Rattle.kfs_image.specs.Parts.{plain, with_parts, BlocksAreWhole}
use Rattle.kfs_image.proofs.edit.Parts.of.Given as goal

-- the edits that are left make of what the parts made so far what all edits make
abbrev pub invariant-loop-edit : goal.invariant-loop-edit
invariant-loop-edit g l = record {
  make : (image : DeviceImage) → edited_all (map plain (drop l.edit-index l.edits)) (with_parts l.parts image) ≡ edited_all (map plain l.edits) image;
  whole : (sizes : TierSizes) → All (WritesWholeBlocks sizes) l.edits → BlocksAreWhole sizes l.parts.written.items;
}
