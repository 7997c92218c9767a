use Rattle.std.proofs.Common.{rules, sym, not}
use Rattle.std.specs.Range.Bound.{bound_map}
use Rattle.std.proofs.lemmas.List.Sorted.{IsPartitionPoint-from_clause}
use Rattle.kfs_maps.specs.Chunks.Starts.{is_from}
use Rattle.kfs_maps.proofs.ChunksLemmas.Order.{before_is}
use Rattle.kfs_maps.proofs.ChunksLemmas.Sorted.{order_by, parted_from}
use Rattle.kfs_maps.proofs.chunks.entries.first_from.Goals as goal

pub returns : goal.returns
returns g c =
    let start = bound_map g.Q.Sought.key c.args.start in
    let order = order_by g.K.Key.order g.K.Ord.cmp g.met.K.Key.compared in
    let point = IsPartitionPoint-from_clause (λ e. not (is_from g.K.Ord.cmp start e.0)) _ _ c.partition_point.ensures.partitioned (parted_from order start c.args.pairs.now c.requires) (λ a r q k. search rules) in
    sym (before_is (λ e. is_from g.K.Ord.cmp start e.0) c.args.pairs.now c.partition_point.result c.partition_point.ensures.bound point)
