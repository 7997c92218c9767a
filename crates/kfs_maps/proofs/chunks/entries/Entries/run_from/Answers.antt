use Rattle.std.proofs.Common.{◌≤◌, ◌∙◌, length, drop, ap, arith, Bor}
use Rattle.std.specs.Range.Bound.{bound_map}
use Rattle.kfs_maps.specs.Chunks.Starts.{is_from, first_from, entries_from}
use Rattle.kfs_maps.proofs.ChunksLemmas.Order.{before_within}
use Rattle.kfs_maps.proofs.ChunksLemmas.Runs.{drop_first}
use Rattle.kfs_maps.proofs.ChunksLemmas.Sorted.{order_by}
use Rattle.kfs_maps.proofs.chunks.entries.Entries.run_from.Goals as goal

pub split_at-requires : goal.split_at-requires
split_at-requires g c =
    let start = bound_map (λ (x : Bor g.row.K.Denot). x.now) c.args.start in
    let within : first_from g.K.Ord.cmp start c.deref-2.result.now ≤ length c.deref-2.result.now = before_within (λ e. is_from g.K.Ord.cmp start e.0) c.deref-2.result.now in
    omega (arith, within, c.first_from.ensures, ap length c.deref.ensures.value, ap length c.deref-2.ensures.value)

pub returns : goal.returns
returns g c =
    let cmp = g.K.Ord.cmp in
    let start = bound_map (λ (x : Bor g.row.K.Denot). x.now) c.args.start in
    let es = c.self.inside.pairs.items in
    c.split_at.ensures.back
    ∙ (λ i. drop (c.first_from.ensures i) (c.deref.ensures.value i))
    ∙ ap (λ xs. drop (first_from cmp start xs) es) c.deref-2.ensures.value
    ∙ drop_first (order_by g.K.Key.order cmp g.met.K.Key.compared) start es c.self.invariant
    ∙ ap (λ s. entries_from cmp start s.pairs) c.self.view_is
