use Rattle.std.proofs.Common.{ℕ, All, List, subst}
use Rattle.std.proofs.lemmas.List.{take_all}
use Rattle.std.proofs.lemmas.List.Elements.{All-nil, All-more}
use Rattle.kfs_model.specs.Spelling.{IsNameRow}
use Rattle.kfs_types.specs.Views.{name_row_of}
use Rattle.kfs_types.specs.declared.plan.NameRow.{NameRow}
use Rattle.kfs_plan_maker.proofs.fits.tell_names.Goals as goal

abbrev Fits : NameRow (List ℕ) → Type 0
Fits row = IsNameRow (name_row_of row)

pub loop-row-init : goal.loop-row-init
loop-row-init c = All-nil Fits

pub loop-row-preserved : goal.loop-row-preserved
loop-row-preserved c =
    let row = c.row-item.result in
    All-more Fits c.args.rows.now c.loop-row.row-index row c.loop-row-test.true c.loop-row.invariant (subst Fits c.row-item.is c.tell_name.ensures)

pub returns : goal.returns
returns c = subst (All Fits) (take_all c.loop-row.row-index c.args.rows.now c.loop-row-test.false) c.loop-row.invariant
