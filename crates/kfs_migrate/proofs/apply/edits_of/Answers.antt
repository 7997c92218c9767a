use Rattle.std.proofs.Common.{◌≡◌, [], take_all, sym, subst, arith}
use Rattle.kfs_migrate.specs.Applied.{AreEditsOf}
use Rattle.kfs_migrate.proofs.MadeMoves.{no_edits, next_edits}
use Rattle.kfs_migrate.proofs.apply.edits_of.Goals as goal

pub loop-m-init : goal.loop-m-init
loop-m-init g c =
    let none : c.new-edits.result.items ≡ [] = cc in
    subst (AreEditsOf {A = g.row.A.Denot} c.args.image.now []) (sym none) (no_edits g.row.A.Denot c.args.image.now c.shape-shape.ensures.lawful)

pub loop-m-preserved : goal.loop-m-preserved
loop-m-preserved g c =
    next_edits c.args.image.now c.args.moves.now c.requires c.loop-m.m-index _ c.loop-m-test.true c.m-item.is c.loop-m.edits.items c.add_edits.new.edits.items c.loop-m.invariant c.in_ok-add_edits.ensures

pub returns : goal.returns
returns g c = subst (λ ms. AreEditsOf c.args.image.now ms c.loop-m.edits.items) (take_all c.loop-m.m-index c.args.moves.now (omega arith)) c.loop-m.invariant
