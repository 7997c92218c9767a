use Rattle.std.proofs.Common.{sym, subst, ◌∙◌}
use Rattle.kfs_model.specs.Device.ShownTree.{IsLawful}
use Rattle.kfs_image.specs.Codec.RawImages.{raw_of}
use Rattle.kfs_image.specs.Image.{image_with}
use Rattle.kfs_image.proofs.image.Image.of_rows.Goals as goal

pub raw_blocks-requires-clause-spelled : goal.raw_blocks-requires-clause-spelled
raw_blocks-requires-clause-spelled g c = c.tell_spelled.ensures

pub invariant_of-result : goal.invariant_of-result
invariant_of-result g c =
    let raw = raw_of c.args.raw.now in
    let contents = c.in_ok-shape-2.ensures.ok ∙ c.in_ok-shape.ensures in
    subst IsLawful (λ i. image_with (sym contents i) (sym c.in_ok-blocks.ensures i)) (c.well_formed_image_is_lawful.ensures raw c.tell_spelled.ensures c.requires.well_formed)

pub returns : goal.returns
returns g c =
    let contents = c.in_ok-shape-2.ensures.ok ∙ c.in_ok-shape.ensures in
    λ i. image_with (contents i) (c.in_ok-blocks.ensures i)
