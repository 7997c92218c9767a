use Rattle.kfs_maps.proofs.ChunksLemmas.InOrder.{one_made, all_made}
use Rattle.kfs_image_nodes.proofs.NodeEdits.{rows_left}
use Rattle.kfs_c.specs.Calls.{move_of}
use Rattle.kfs_c.specs.declared.numbers.MoveRow.{MoveRow}
use Rattle.kfs_c.proofs.acts.moves_from.Goals as goal

abbrev none : MoveRow
none = record { number = 0; block = 0; tier = 0; place = 0 }

pub loop-row-preserved : goal.loop-row-preserved
loop-row-preserved c =
    one_made move_of c.args.rows.now c.loop-row.row-index _ c.loop-row.moves.items c.push.new.self.items _
    (rows_left c.args.rows.now c.loop-row.row-index none c.loop-row-test.true) c.in_ok-push.ensures.items c.loop-row.invariant

pub returns : goal.returns
returns c = all_made move_of c.args.rows.now c.loop-row.row-index c.loop-row.moves.items _ c.loop-row-test.false c.loop-row.invariant
