use Rattle.std.proofs.Common.{◌++◌, sym, ap, subst, ◌∙◌}
use Rattle.kfs_image.specs.Released.{AreReleased}
use Rattle.kfs_image.proofs.ReleasedBlocks.{released_are}
use Rattle.kfs_image.proofs.read.released_blocks.Goals as goal

pub returns : goal.returns
returns g c =
    subst (AreReleased c.args.nodes.now c.args.zero.now)
    (sym (c.in_ok-extend_from_slice.ensures.items ∙ ap (λ runs. runs ++ c.args.zero.now) c.in_ok-released.ensures))
    (released_are c.args.nodes.now c.headers.result.now c.args.zero.now c.headers.ensures.are c.headers.ensures.says)
