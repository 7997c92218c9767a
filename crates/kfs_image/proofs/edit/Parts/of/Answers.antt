use Rattle.std.proofs.Common.{arith, ◌+◌, drop, map, sym, ap, subst, ◌∙◌}
use Rattle.kfs_image.specs.Edit.{edited_all, WritesWholeBlocks}
use Rattle.kfs_image.specs.Parts.{plain, with_parts}
use Rattle.kfs_image.proofs.EditedImages.{none_said, edit_made, edits_made}
use Rattle.kfs_image.proofs.edit.Parts.of.Goals as goal

pub loop-edit-init : goal.loop-edit-init
loop-edit-init g c = record {
  make = λ image. ap (edited_all (map plain c.args.edits.now)) (none_said c.in_ok-parts.parts c.in_ok-parts.ensures image);
  whole = λ sizes whole. c.in_ok-parts.ensures.whole sizes (λ k d below. absurd (omega (arith, below)));
}

pub loop-edit-preserved : goal.loop-edit-preserved
loop-edit-preserved g c = record {
  make = λ image.
      ap (edited_all (map plain (drop (c.loop-edit.edit-index + 1) c.args.edits.now))) (c.in_ok-add.ensures.made image)
      ∙ edit_made c.args.edits.now c.loop-edit.edit-index c.edit-item.result (with_parts c.loop-edit.parts image) c.loop-edit-test.true c.edit-item.is
      ∙ c.loop-edit.invariant.make image;
  whole = λ sizes whole.
      c.in_ok-add.ensures.whole sizes (subst (WritesWholeBlocks sizes) (sym c.edit-item.is) (whole c.loop-edit.edit-index c.edit-item.result c.loop-edit-test.true)) (c.loop-edit.invariant.whole sizes whole);
}

pub returns : goal.returns
returns g c = record {
  make = λ image. edits_made c.args.edits.now c.loop-edit.edit-index (with_parts c.loop-edit.parts image) c.loop-edit-test.false ∙ c.loop-edit.invariant.make image;
  whole = c.loop-edit.invariant.whole;
}
