use Rattle.std.proofs.Common.{◌≡◌, subst, ◌∙◌}
use Rattle.std.specs.Prelude.{OnOk}
use Rattle.kfs_model.specs.Device.ShownTree.{DeviceImage, IsLawful}
use Rattle.kfs_image.proofs.EditedImages.{AreMade, can_change, edited_is, edited_lawful}
use Rattle.kfs_image.proofs.image.Image.edit.Goals as goal

pub change_all-requires-clause-blocks : goal.change_all-requires-clause-blocks
change_all-requires-clause-blocks g c =
    let parts = c.in_ok-names.field-0 in
    let image = c.args.self.now in
    let are : AreMade c.args.edits.now parts c.as_slice-2.result.now c.in_ok-nodes.nodes c.in_ok-places.places.items =
    record { of = c.in_ok-names.ensures; names_are = c.as_slice-2.ensures.value; nodes_are = c.in_ok-nodes.ensures ∙ c.as_slice.ensures.value; ascend = c.in_ok-places.ensures.ascend; block_places = c.in_ok-places.ensures.said } in
    let lawful : IsLawful image = subst IsLawful c.self.view_is c.self.invariant in
    can_change c.args.edits.now parts c.as_slice-2.result.now c.in_ok-nodes.nodes c.in_ok-places.places.items are image lawful c.requires

pub change_all-requires-clause-lawful : goal.change_all-requires-clause-lawful
change_all-requires-clause-lawful g c =
    let parts = c.in_ok-names.field-0 in
    let image = c.args.self.now in
    let are : AreMade c.args.edits.now parts c.as_slice-2.result.now c.in_ok-nodes.nodes c.in_ok-places.places.items =
    record { of = c.in_ok-names.ensures; names_are = c.as_slice-2.ensures.value; nodes_are = c.in_ok-nodes.ensures ∙ c.as_slice.ensures.value; ascend = c.in_ok-places.ensures.ascend; block_places = c.in_ok-places.ensures.said } in
    let lawful : IsLawful image = subst IsLawful c.self.view_is c.self.invariant in
    edited_lawful c.args.edits.now parts c.as_slice-2.result.now c.in_ok-nodes.nodes c.in_ok-places.places.items are image lawful c.requires

pub returns-clause-ok : goal.returns-clause-ok
returns-clause-ok g c =
    let parts = c.in_ok-names.field-0 in
    let image = c.args.self.now in
    let are : AreMade c.args.edits.now parts c.as_slice-2.result.now c.in_ok-nodes.nodes c.in_ok-places.places.items =
    record { of = c.in_ok-names.ensures; names_are = c.as_slice-2.ensures.value; nodes_are = c.in_ok-nodes.ensures ∙ c.as_slice.ensures.value; ascend = c.in_ok-places.ensures.ascend; block_places = c.in_ok-places.ensures.said } in
    let lawful : IsLawful image = subst IsLawful c.self.view_is c.self.invariant in
    subst (λ (after : DeviceImage). OnOk c.change_all.result (c.change_all.new.self ≡ after)) (edited_is c.args.edits.now parts c.as_slice-2.result.now c.in_ok-nodes.nodes c.in_ok-places.places.items are image lawful c.requires) c.change_all.ensures.ok
