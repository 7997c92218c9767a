use Rattle.std.proofs.Common.{rules, ◌≡◌, ap, subst, sym, ◌∙◌}
use Rattle.std.specs.Prelude.{OnErr, OnOk}
use Rattle.kfs_model.specs.Device.ShownTree.{IsLawful}
use Rattle.kfs_image_nodes.specs.Contents.{Contents}
use Rattle.kfs_image_nodes.specs.Lent.{rows_in}
use Rattle.kfs_image.specs.Image.{blocks_of, changed_image, contents_of, image_with}
use Rattle.kfs_image.proofs.ChangedImages.{can_change, changed_err, changed_lawful, changed_ok, fits_after, fits_before}
use Rattle.kfs_image.proofs.image.Image.change_all.Goals as goal

pub apply-requires-clause-before : goal.apply-requires-clause-before
apply-requires-clause-before g c =
    let same : c.in_ok-shape.shape.now ≡ c.self.inside.shape.value = search rules in
    fits_before (rows_in c.args.names) c.args.nodes.now c.args.edits c.as_slice.result.now c.as_slice.ensures.value c.args.self.now c.in_ok-shape.shape.now c.self.inside.blocks (same ∙ ap contents_of c.self.view_is) (ap blocks_of c.self.view_is) (subst IsLawful c.self.view_is c.self.invariant)

pub apply-requires-clause-after : goal.apply-requires-clause-after
apply-requires-clause-after g c =
    let same : c.in_ok-shape.shape.now ≡ c.self.inside.shape.value = search rules in
    fits_after (rows_in c.args.names) c.args.nodes.now c.args.edits c.as_slice.result.now c.as_slice.ensures.value c.args.self.now c.in_ok-shape.shape.now c.self.inside.blocks (same ∙ ap contents_of c.self.view_is) (ap blocks_of c.self.view_is) c.requires.lawful

pub apply-requires-clause-then : goal.apply-requires-clause-then
apply-requires-clause-then g c =
    let same : c.in_ok-shape.shape.now ≡ c.self.inside.shape.value = search rules in
    can_change (rows_in c.args.names) c.args.nodes.now c.args.edits c.as_slice.result.now c.as_slice.ensures.value c.args.self.now c.in_ok-shape.shape.now c.self.inside.blocks (same ∙ ap contents_of c.self.view_is) (ap blocks_of c.self.view_is) c.requires.blocks

pub invariant_of-self-2 : goal.invariant_of-self-2
invariant_of-self-2 g c =
    let same : c.in_ok-shape.shape.now ≡ c.self.inside.shape.value = search rules in
    let back : (c.make_mut.follows.lender c.apply.new.self).value ≡ c.apply.new.self = search rules in
    subst (λ (new : Contents). IsLawful (image_with new c.apply.new.then.blocks.now)) (sym back)
    (changed_lawful (rows_in c.args.names) c.args.nodes.now c.args.edits c.as_slice.result.now c.as_slice.ensures.value c.args.self.now c.in_ok-shape.shape.now c.self.inside.blocks (same ∙ ap contents_of c.self.view_is) (ap blocks_of c.self.view_is)
    c.apply.result c.apply.new.self c.apply.new.then.blocks.now _ _ (subst IsLawful c.self.view_is c.self.invariant) c.requires.lawful c.apply.ensures.ok c.apply.ensures.err c.apply.ensures.made c.apply.ensures.kept)

pub returns-clause-ok : goal.returns-clause-ok
returns-clause-ok g c =
    let same : c.in_ok-shape.shape.now ≡ c.self.inside.shape.value = search rules in
    let back : (c.make_mut.follows.lender c.apply.new.self).value ≡ c.apply.new.self = search rules in
    subst (λ (new : Contents). OnOk c.apply.result (image_with new c.apply.new.then.blocks.now ≡ changed_image (rows_in c.args.names) c.args.nodes.now c.args.edits c.args.self.now)) (sym back)
    (changed_ok (rows_in c.args.names) c.args.nodes.now c.args.edits c.as_slice.result.now c.as_slice.ensures.value c.args.self.now c.in_ok-shape.shape.now c.self.inside.blocks (same ∙ ap contents_of c.self.view_is) (ap blocks_of c.self.view_is)
    c.apply.result c.apply.new.self c.apply.new.then.blocks.now _ c.apply.ensures.ok c.apply.ensures.made)

pub returns-clause-err : goal.returns-clause-err
returns-clause-err g c =
    let same : c.in_ok-shape.shape.now ≡ c.self.inside.shape.value = search rules in
    let back : (c.make_mut.follows.lender c.apply.new.self).value ≡ c.apply.new.self = search rules in
    subst (λ (new : Contents). OnErr c.apply.result (image_with new c.apply.new.then.blocks.now ≡ c.args.self.now)) (sym back)
    (changed_err (rows_in c.args.names) c.args.nodes.now c.args.edits c.as_slice.result.now c.as_slice.ensures.value c.args.self.now c.in_ok-shape.shape.now c.self.inside.blocks (same ∙ ap contents_of c.self.view_is) (ap blocks_of c.self.view_is)
    c.apply.result c.apply.new.self c.apply.new.then.blocks.now _ c.apply.ensures.err c.apply.ensures.kept)
