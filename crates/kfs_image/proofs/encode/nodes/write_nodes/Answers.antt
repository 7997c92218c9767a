use Rattle.std.proofs.Common.{◌++◌, length, ap, arith}
use Rattle.std.specs.List.{flat_map}
use Rattle.std.specs.declared.ops.Bound.TheVariants.{Excluded}
use Rattle.kfs_image.specs.Encode.Rows.{entries_from, node_entry_of, node_spelling}
use Rattle.kfs_image.proofs.EncodeLemmas.NodeWalks.{all_nodes}
use Rattle.kfs_image.proofs.EncodeLemmas.Spelled.{written_next, written_all}
use Rattle.kfs_image.proofs.encode.nodes.write_nodes.Goals as goal

pub loop-row-init : goal.loop-row-init
loop-row-init g c = ap (λ es. c.args.out.now.items ++ flat_map node_spelling es) (all_nodes c.args.image.now c.requires)

pub loop-row-smaller : goal.loop-row-smaller
loop-row-smaller g c = omega (arith, ap length c.in-Some.ensures.found)

pub loop-row-preserved : goal.loop-row-preserved
loop-row-preserved g c =
    let heads = c.args.image.now.heads in
    written_next node_spelling c.loop-row.out.items c.write.new.out.items _ (node_entry_of c.in-Some.row) (entries_from (Excluded c.loop-row.after) heads) (entries_from (Excluded c.in-Some.row.number) heads)
    c.in-Some.ensures.found c.in_ok-write.ensures c.loop-row.invariant

pub returns : goal.returns
returns g c = written_all node_spelling c.loop-row.out.items _ (entries_from (Excluded c.loop-row.after) c.args.image.now.heads) c.in_default.ensures.none c.loop-row.invariant
