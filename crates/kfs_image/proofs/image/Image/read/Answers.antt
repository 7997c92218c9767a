use Rattle.std.proofs.Common.{rules, ◌≡◌, ◌+◌, false, Some, ap, ◌∙◌}
use Rattle.kfs_types.specs.Views.{header_of}
use Rattle.kfs_model.specs.Table.{get}
use Rattle.kfs_model.specs.Sight.{is_directory}
use Rattle.kfs_model.specs.Device.ShownTree.{DeviceImage, file_byte}
use Rattle.kfs_image.proofs.ReadFile.{read_past, read_part}
use Rattle.kfs_image.proofs.image.Image.read.Goals as goal

pub returns-then-header-start-clause-read : goal.returns-then-header-start-clause-read
returns-then-header-start-clause-read g c =
    let there : get c.args.self.now.heads c.args.number ≡ Some (header_of c.in_ok-header.header) = search rules in
    let file : is_directory (get c.args.self.now.heads c.args.number) ≡ false = search rules in
    read_past c.args.self.now c.args.number (header_of c.in_ok-header.header) there file c.args.start c.args.buffer.now c.if-header-start.true

pub returns-clause-read : goal.returns-clause-read
returns-clause-read g c =
    let there : get c.args.self.now.heads c.args.number ≡ Some (header_of c.in_ok-header.header) = search rules in
    let file : is_directory (get c.args.self.now.heads c.args.number) ≡ false = search rules in
    read_part c.args.self.now c.args.number (header_of c.in_ok-header.header) there file c.args.start c.min-count.result c.args.buffer.now c.read_bytes.new.buffer
    (search rules)
    (search rules)
    (λ k less. c.read_bytes.ensures k less ∙ ap (λ (image : DeviceImage). file_byte image.placement image.devices c.args.number (c.args.start + k)) c.self.view_is)
