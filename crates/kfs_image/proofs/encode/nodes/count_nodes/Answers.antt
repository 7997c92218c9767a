use Rattle.std.proofs.Common.{length, ap, arith}
use Rattle.std.specs.declared.ops.Bound.TheVariants.{Excluded}
use Rattle.kfs_image.specs.Encode.Rows.{entries_from, node_entry_of}
use Rattle.kfs_image.proofs.EncodeLemmas.NodeWalks.{all_nodes}
use Rattle.kfs_image.proofs.EncodeLemmas.Spelled.{counted_next, counted_all}
use Rattle.kfs_image.proofs.encode.nodes.count_nodes.Goals as goal

pub loop-row-init : goal.loop-row-init
loop-row-init g c = omega (arith, c.none-rows.ensures, ap length (all_nodes c.args.image.now c.requires))

pub loop-row-smaller : goal.loop-row-smaller
loop-row-smaller g c = omega (arith, ap length c.in-Some.ensures.found)

pub loop-row-preserved : goal.loop-row-preserved
loop-row-preserved g c =
    let heads = c.args.image.now.heads in
    counted_next c.loop-row.rows.count (length heads.entries) _ (node_entry_of c.in-Some.row) (entries_from (Excluded c.loop-row.after) heads) (entries_from (Excluded c.in-Some.row.number) heads)
    c.in-Some.ensures.found c.in_ok-rows.ensures c.loop-row.invariant

pub returns : goal.returns
returns g c = counted_all c.loop-row.rows.count _ (entries_from (Excluded c.loop-row.after) c.args.image.now.heads) c.in_default.ensures.none c.loop-row.invariant
