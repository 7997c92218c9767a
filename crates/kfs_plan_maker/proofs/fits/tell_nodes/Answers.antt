use Rattle.std.proofs.Common.{All, None, subst}
use Rattle.std.proofs.lemmas.List.{take_all}
use Rattle.std.proofs.lemmas.List.Elements.{All-nil, All-more}
use Rattle.kfs_model.specs.Spelling.{IsNodeRow}
use Rattle.kfs_types.specs.Views.{node_row_of}
use Rattle.kfs_types.specs.declared.plan.NodeRow.{NodeRow}
use Rattle.kfs_plan_maker.proofs.fits.tell_nodes.Goals as goal

abbrev Fits : NodeRow → Type 0
Fits row = IsNodeRow (node_row_of row)

abbrev none : NodeRow
none = record { number = 0; now = None }

pub loop-row-init : goal.loop-row-init
loop-row-init c = All-nil Fits

pub loop-row-preserved : goal.loop-row-preserved
loop-row-preserved c = All-more Fits c.args.rows.now c.loop-row.row-index none c.loop-row-test.true c.loop-row.invariant c.tell_node.ensures

pub returns : goal.returns
returns c = subst (All Fits) (take_all c.loop-row.row-index c.args.rows.now c.loop-row-test.false) c.loop-row.invariant
