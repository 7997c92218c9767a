use Rattle.std.proofs.Common.{◌∙◌, not, ap, sym}
use Rattle.std.specs.Ordering.{is_lt, is_gt}
use Rattle.std.specs.Range.Bound.{bound_map}
use Rattle.kfs_maps.specs.Chunks.Starts.{is_from}
use Rattle.kfs_maps.proofs.ChunksLemmas.Order.{flipped}
use Rattle.kfs_maps.proofs.ChunksLemmas.Sorted.{order_by}
use Rattle.kfs_maps.proofs.chunks.entries.is_from.Goals as goal

pub returns-in-Included : goal.returns-in-Included
returns-in-Included g c =
    let cmp = g.K.Ord.cmp in
    let order = order_by g.K.Key.order cmp g.met.K.Key.compared in
    let key = c.args.key.now in
    ap not (c.is_gt.ensures ∙ ap is_gt c.against.ensures ∙ sym (flipped order.total key (g.Q.Sought.key c.in-Included.first)))
    ∙ ap (λ start. is_from cmp (bound_map g.Q.Sought.key start) key) (sym c.in-Included.is)

pub returns-in-Excluded : goal.returns-in-Excluded
returns-in-Excluded g c =
    let cmp = g.K.Ord.cmp in
    let order = order_by g.K.Key.order cmp g.met.K.Key.compared in
    let key = c.args.key.now in
    c.is_lt.ensures
    ∙ ap is_lt c.against-in-Excluded.ensures
    ∙ flipped order.total (g.Q.Sought.key c.in-Excluded.last) key
    ∙ ap (λ start. is_from cmp (bound_map g.Q.Sought.key start) key) (sym c.in-Excluded.is)
