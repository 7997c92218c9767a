use Rattle.std.proofs.Common.{◌≡◌, sym, subst}
use Rattle.kfs_migrate.specs.Applied.{AreEditsOf}
use Rattle.kfs_migrate.proofs.MadeMoves.{can_edit, applied_ok, shown_ok}
use Rattle.kfs_migrate.proofs.apply.apply_moves.Goals as goal

pub edit-requires : goal.edit-requires
edit-requires g c =
    let are = subst (AreEditsOf c.args.image.now c.args.moves.now) (sym c.as_slice.ensures.value) c.in_ok-edits.ensures in
    can_edit c.args.image.now c.shape-shape.ensures.lawful c.args.moves.now c.requires c.as_slice.result.now are

pub returns-clause-ok : goal.returns-clause-ok
returns-clause-ok g c =
    let are = subst (AreEditsOf c.args.image.now c.args.moves.now) (sym c.as_slice.ensures.value) c.in_ok-edits.ensures in
    applied_ok c.args.image.now c.shape-shape.ensures.lawful c.args.moves.now c.requires c.as_slice.result.now are c.edit.new.self c.edit.result c.edit.ensures.ok

pub returns-clause-shown : goal.returns-clause-shown
returns-clause-shown g c =
    let are = subst (AreEditsOf c.args.image.now c.args.moves.now) (sym c.as_slice.ensures.value) c.in_ok-edits.ensures in
    shown_ok c.args.image.now c.shape-shape.ensures.lawful c.args.moves.now c.requires c.as_slice.result.now are c.edit.new.self c.edit.result c.edit.ensures.ok
