use Rattle.std.proofs.Common.{◌≡◌, subst, sym, ◌∙◌}
use Rattle.std.specs.Prelude.{OnOk}
use Rattle.kfs_model.specs.Device.ShownTree.{DeviceImage, IsLawful}
use Rattle.kfs_image_nodes.specs.Lent.{rows_in}
use Rattle.kfs_image.specs.Blocks.Blocks.{CanChange}
use Rattle.kfs_image.specs.Image.{blocks_of}
use Rattle.kfs_image.proofs.ChangedImages.{AreOf, can_fill, applied_is}
use Rattle.kfs_image.proofs.image.Image.change.Goals as goal

pub copied_edits-requires : goal.copied_edits-requires
copied_edits-requires g c =
    let of : AreOf c.args.net.now c.args.fill.now c.in_ok-nodes.nodes c.as_slice-2.result.now c.in_ok-released.released.items c.as_slice-3.result.now c.as_slice-4.result.now =
    record { nodes_are = c.in_ok-nodes.ensures ∙ c.as_slice.ensures.value; zero_are = c.as_slice-2.ensures.value; released_are = c.as_slice-3.ensures.value; rows_are = c.as_slice-4.ensures.value; found_are = c.in_ok-released.ensures } in
    can_fill of c.self.inside.shape.value c.self.inside.blocks c.self.invariant c.args.self.now c.self.view_is c.requires

pub change_all-requires-clause-blocks : goal.change_all-requires-clause-blocks
change_all-requires-clause-blocks g c = subst (λ (image : DeviceImage). CanChange (blocks_of image) c.in_ok-edits.edits.places.items c.in_ok-edits.edits.written.items) c.self.view_is c.in_ok-edits.ensures.can

pub change_all-requires-clause-lawful : goal.change_all-requires-clause-lawful
change_all-requires-clause-lawful g c =
    let of : AreOf c.args.net.now c.args.fill.now c.in_ok-nodes.nodes c.as_slice-2.result.now c.in_ok-released.released.items c.as_slice-3.result.now c.as_slice-4.result.now =
    record { nodes_are = c.in_ok-nodes.ensures ∙ c.as_slice.ensures.value; zero_are = c.as_slice-2.ensures.value; released_are = c.as_slice-3.ensures.value; rows_are = c.as_slice-4.ensures.value; found_are = c.in_ok-released.ensures } in
    subst IsLawful (sym (applied_is of c.self.inside.shape.value c.self.inside.blocks c.self.invariant (rows_in c.names.result) c.in_ok-nodes.nodes c.names.ensures (c.in_ok-nodes.ensures ∙ c.as_slice.ensures.value) c.in_ok-edits.edits c.in_ok-edits.ensures.fill c.args.self.now c.self.view_is)) c.requires.lawful

pub returns-clause-ok : goal.returns-clause-ok
returns-clause-ok g c =
    let of : AreOf c.args.net.now c.args.fill.now c.in_ok-nodes.nodes c.as_slice-2.result.now c.in_ok-released.released.items c.as_slice-3.result.now c.as_slice-4.result.now =
    record { nodes_are = c.in_ok-nodes.ensures ∙ c.as_slice.ensures.value; zero_are = c.as_slice-2.ensures.value; released_are = c.as_slice-3.ensures.value; rows_are = c.as_slice-4.ensures.value; found_are = c.in_ok-released.ensures } in
    subst (λ (after : DeviceImage). OnOk c.change_all.result (c.change_all.new.self ≡ after)) (applied_is of c.self.inside.shape.value c.self.inside.blocks c.self.invariant (rows_in c.names.result) c.in_ok-nodes.nodes c.names.ensures (c.in_ok-nodes.ensures ∙ c.as_slice.ensures.value) c.in_ok-edits.edits c.in_ok-edits.ensures.fill c.args.self.now c.self.view_is) c.change_all.ensures.ok
