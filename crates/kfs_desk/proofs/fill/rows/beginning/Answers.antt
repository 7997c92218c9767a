use Rattle.std.proofs.Common.{sym, ◌∙◌, arith}
use Rattle.kfs_desk.proofs.FillLemmas.PartSteps.{beginning_next, beginning_here, beginning_end}
use Rattle.kfs_desk.proofs.fill.rows.beginning.Goals as goal
use Rattle.kfs_desk.proofs.fill.rows.beginning.Goals.{then-loop-end-test+else-begins_before, else-loop-end-test}

pub loop-end-preserved : goal.loop-end-preserved
loop-end-preserved c = record {
  within = omega arith;
  same = beginning_next c.args.number c.args.place c.args.pieces.now c.loop-end.end _ c.loop-end-test.true (sym c.begins_before.ensures ∙ c.if-begins_before.true) ∙ c.loop-end.invariant.same;
}

pub returns : goal.returns
returns c =
    sym (elim c.loop-end-test.branch [
      | then-loop-end-test+else-begins_before w ↦ beginning_here c.args.number c.args.place c.args.pieces.now c.loop-end.end _ w.loop-end-test.true (sym w.begins_before.ensures ∙ w.if-begins_before.false)
      | else-loop-end-test w ↦ beginning_end c.args.number c.args.place c.args.pieces.now c.loop-end.end w.loop-end-test.false
    ])
    ∙ c.loop-end.invariant.same
