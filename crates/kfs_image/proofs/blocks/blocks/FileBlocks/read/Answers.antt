use Rattle.std.proofs.Common.{◌+◌, ◌<◌, refl, sym, ap, ◌∙◌, arith}
use Rattle.kfs_model.specs.Limits.{block_size}
use Rattle.kfs_model.specs.Device.Device.{byte_on}
use Rattle.kfs_image.specs.Blocks.Blocks.{BlocksShown}
use Rattle.kfs_image.proofs.BlocksLemmas.ReadBytes.{byte_mapped, byte_unmapped}
use Rattle.kfs_image.proofs.blocks.blocks.FileBlocks.read.Goals as goal

pub returns-in-Some : goal.returns-in-Some
returns-in-Some g c i below =
    let within : c.args.offset + i < block_size = omega (arith, below, c.requires, c.read.auto.buffer) in
    c.read.ensures i below
    ∙ ap (λ (b : BlocksShown). byte_on b.devices c.in-Some.place (c.args.offset + i)) c.self.view_is
    ∙ byte_mapped c.args.self.now.placement c.args.self.now.devices c.args.number c.args.block (c.args.offset + i) within c.in-Some.place (sym c.place_near.ensures ∙ c.in-Some.is)

pub returns-in-None : goal.returns-in-None
returns-in-None g c i below =
    let within : c.args.offset + i < block_size = omega (arith, below, c.requires, c.fill.ensures.len) in
    c.fill.ensures.clones i 0 (omega (arith, below, c.fill.ensures.len)) refl
    ∙ byte_unmapped c.args.self.now.placement c.args.self.now.devices c.args.number c.args.block (c.args.offset + i) within (sym c.place_near.ensures ∙ c.in-None.is)
