use Rattle.std.proofs.Common.{refl, ◌≡◌, subst, sym}
use Rattle.std.specs.Prelude.{OnOk}
use Rattle.kfs_model.specs.Device.ShownTree.{DeviceImage, IsLawful}
use Rattle.kfs_image_nodes.specs.Lent.{net_in, rows_in}
use Rattle.kfs_image.specs.Blocks.Blocks.{CanChange}
use Rattle.kfs_image.specs.Image.{blocks_of}
use Rattle.kfs_image.proofs.ChangedImages.{AreOf, can_fill, applied_is}
use Rattle.kfs_image.proofs.image.Image.change_moving.Goals as goal

pub moved_edits-requires : goal.moved_edits-requires
moved_edits-requires g c =
    let of : AreOf (net_in c.args.net) c.args.fill c.args.nodes.now c.as_slice.result.now c.in_ok-released.released.items c.as_slice-2.result.now c.args.fill.rows.items =
    record { nodes_are = c.requires.nodes; zero_are = c.as_slice.ensures.value; released_are = c.as_slice-2.ensures.value; rows_are = refl; found_are = c.in_ok-released.ensures } in
    can_fill of c.self.inside.shape.value c.self.inside.blocks c.self.invariant c.args.self.now c.self.view_is c.requires.can

pub change_all-requires-clause-blocks : goal.change_all-requires-clause-blocks
change_all-requires-clause-blocks g c = subst (λ (image : DeviceImage). CanChange (blocks_of image) c.in_ok-edits.edits.places.items c.in_ok-edits.edits.written.items) c.self.view_is c.in_ok-edits.ensures.can

pub change_all-requires-clause-lawful : goal.change_all-requires-clause-lawful
change_all-requires-clause-lawful g c =
    let of : AreOf (net_in c.args.net) c.args.fill c.args.nodes.now c.as_slice.result.now c.in_ok-released.released.items c.as_slice-2.result.now c.args.fill.rows.items =
    record { nodes_are = c.requires.nodes; zero_are = c.as_slice.ensures.value; released_are = c.as_slice-2.ensures.value; rows_are = refl; found_are = c.in_ok-released.ensures } in
    subst IsLawful (sym (applied_is of c.self.inside.shape.value c.self.inside.blocks c.self.invariant (rows_in c.names.result) c.args.nodes.now c.names.ensures c.requires.nodes c.in_ok-edits.edits c.in_ok-edits.ensures.fill c.args.self.now c.self.view_is)) c.requires.can.lawful

pub returns-clause-ok : goal.returns-clause-ok
returns-clause-ok g c =
    let of : AreOf (net_in c.args.net) c.args.fill c.args.nodes.now c.as_slice.result.now c.in_ok-released.released.items c.as_slice-2.result.now c.args.fill.rows.items =
    record { nodes_are = c.requires.nodes; zero_are = c.as_slice.ensures.value; released_are = c.as_slice-2.ensures.value; rows_are = refl; found_are = c.in_ok-released.ensures } in
    subst (λ (after : DeviceImage). OnOk c.change_all.result (c.change_all.new.self ≡ after)) (applied_is of c.self.inside.shape.value c.self.inside.blocks c.self.invariant (rows_in c.names.result) c.args.nodes.now c.names.ensures c.requires.nodes c.in_ok-edits.edits c.in_ok-edits.ensures.fill c.args.self.now c.self.view_is) c.change_all.ensures.ok
