use Rattle.std.proofs.Common.{rules, sym, not}
use Rattle.std.specs.Range.Bound.{bound_map}
use Rattle.std.proofs.lemmas.List.Sorted.{IsPartitionPoint-from_clause}
use Rattle.kfs_maps.specs.Chunks.Starts.{reaches}
use Rattle.kfs_maps.proofs.ChunksLemmas.Order.{before_is}
use Rattle.kfs_maps.proofs.ChunksLemmas.Parts.{parted_runs}
use Rattle.kfs_maps.proofs.ChunksLemmas.Sorted.{order_by}
use Rattle.kfs_maps.proofs.chunks.run.place.Goals as goal

pub returns : goal.returns
returns g c =
    let cmp = g.K.Ord.cmp in
    let start = bound_map g.Q.Sought.key c.args.start.now in
    let order = order_by g.K.Key.order cmp g.met.K.Key.compared in
    let entries = g.R.Run.entries in
    let point = IsPartitionPoint-from_clause (λ run. not (reaches cmp start (entries run.value))) _ _ c.partition_point.ensures.partitioned (parted_runs order entries start c.args.runs.now c.requires.sorted c.requires.filled) (λ a r q k. search rules) in
    sym (before_is (λ run. reaches cmp start (entries run.value)) c.args.runs.now c.partition_point.result c.partition_point.ensures.bound point)
