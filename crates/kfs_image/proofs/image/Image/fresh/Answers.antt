use Rattle.std.proofs.Common.{◌≤◌, subst, ◌∙◌}
use Rattle.kfs_model.specs.Limits.{tier_limit}
use Rattle.kfs_model.specs.Placement.{AreTierSizes}
use Rattle.kfs_image.proofs.FreshImage.{fresh_from}
use Rattle.kfs_image.proofs.image.Image.fresh.Goals as goal

pub invariant_of-result : goal.invariant_of-result
invariant_of-result g c =
    let in_range : AreTierSizes c.args.sizes = (
      subst (λ n. n ≤ tier_limit) c.size.ensures.size c.size.ensures.in_range,
      subst (λ n. n ≤ tier_limit) c.size-2.ensures.size c.size-2.ensures.in_range,
      subst (λ n. n ≤ tier_limit) c.size-3.ensures.size c.size-3.ensures.in_range,
    ) in
    fresh_from c.args.sizes in_range c.in_ok-shape-2.shape.value c.in_ok-blocks.blocks (c.in_ok-shape-2.ensures.ok ∙ c.in_ok-shape.ensures) c.in_ok-blocks.ensures
