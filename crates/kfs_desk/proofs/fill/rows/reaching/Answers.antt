use Rattle.std.proofs.Common.{map, sym, ap, ◌∙◌, arith}
use Rattle.std.proofs.lemmas.List.{take_rest}
use Rattle.kfs_types.specs.Views.{piece_of}
use Rattle.kfs_desk.proofs.FillLemmas.PartSteps.{reaching_next, reaching_here, reaching_end}
use Rattle.kfs_desk.proofs.fill.rows.reaching.Goals as goal
use Rattle.kfs_desk.proofs.fill.rows.reaching.Goals.{then-loop-first-test+else-ends_by, else-loop-first-test}

pub loop-first-preserved : goal.loop-first-preserved
loop-first-preserved c = record {
  within = omega arith;
  same = reaching_next c.args.number c.args.place c.args.pieces.now c.loop-first.first _ c.loop-first-test.true (sym c.ends_by.ensures ∙ c.if-ends_by.true) ∙ c.loop-first.invariant.same;
}

pub returns : goal.returns
returns c =
    ap (map piece_of) (take_rest c.args.pieces.now c.loop-first.first)
    ∙ sym (elim c.loop-first-test.branch [
      | then-loop-first-test+else-ends_by w ↦ reaching_here c.args.number c.args.place c.args.pieces.now c.loop-first.first _ w.loop-first-test.true (sym w.ends_by.ensures ∙ w.if-ends_by.false)
      | else-loop-first-test w ↦ reaching_end c.args.number c.args.place c.args.pieces.now c.loop-first.first w.loop-first-test.false
    ])
    ∙ c.loop-first.invariant.same
