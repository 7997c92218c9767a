use Rattle.std.proofs.Common.{◌<◌, ◌^◌, All, subst}
use Rattle.std.proofs.lemmas.List.{take_all}
use Rattle.std.proofs.lemmas.List.Elements.{All-nil, All-more}
use Rattle.kfs_types.specs.declared.entry.Kind.TheVariants as kinds
use Rattle.kfs_image.specs.declared.codec.raw.RawNode.{RawNode}
use Rattle.kfs_image.proofs.raw.spelled.tell_ids.Goals as goal

abbrev none : RawNode
none = record { number = 0; header = record { kind = kinds.File; mode = 0; uid = 0; gid = 0; links = 0; size = 0 } }

abbrev Fits : RawNode → Type 0
Fits row = (row.header.uid < 2 ^ 32) × (row.header.gid < 2 ^ 32)

pub loop-row-init : goal.loop-row-init
loop-row-init c = All-nil Fits

pub loop-row-preserved : goal.loop-row-preserved
loop-row-preserved c = All-more Fits c.args.rows.now c.loop-row.row-index none c.loop-row-test.true c.loop-row.invariant c.ids_of-ids.ensures

pub returns : goal.returns
returns c = subst (All Fits) (take_all c.loop-row.row-index c.args.rows.now c.loop-row-test.false) c.loop-row.invariant
