use Rattle.std.proofs.Common.{◌++◌, map, ap}
use Rattle.kfs_types.specs.declared.entry.Kind.TheVariants as kinds
use Rattle.kfs_image.specs.declared.codec.raw.RawNode.{RawNode}
use Rattle.kfs_maps.proofs.ChunksLemmas.InOrder.{one_made, all_made}
use Rattle.kfs_image_nodes.proofs.NodeEdits.{rows_left}
use Rattle.kfs_image.specs.Raw.Rows.{header_edit}
use Rattle.kfs_image.proofs.raw.contents.edits_of.Goals as goal

abbrev none : RawNode
none = record { number = 0; header = record { kind = kinds.File; mode = 0; uid = 0; gid = 0; links = 0; size = 0 } }

pub loop-row-init : goal.loop-row-init
loop-row-init g c = ap (λ edits. edits ++ map header_edit c.args.rows.now) c.in_ok-edits.ensures.items

pub loop-row-preserved : goal.loop-row-preserved
loop-row-preserved g c =
    one_made header_edit c.args.rows.now c.loop-row.row-index _ c.loop-row.edits.items c.push.new.self.items _ (rows_left c.args.rows.now c.loop-row.row-index none c.loop-row-test.true) c.in_ok-push.ensures.items c.loop-row.invariant

pub returns : goal.returns
returns g c = all_made header_edit c.args.rows.now c.loop-row.row-index c.loop-row.edits.items _ c.loop-row-test.false c.loop-row.invariant
