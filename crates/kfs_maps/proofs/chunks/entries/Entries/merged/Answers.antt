use Rattle.std.proofs.Common.{◌∙◌, T, sym, ap, subst}
use Rattle.std.specs.FinMap.Entries.{is_sorted}
use Rattle.kfs_maps.specs.Chunks.Edits.{entered_all}
use Rattle.kfs_maps.proofs.ChunksLemmas.Rewritten.{is_sorted-all}
use Rattle.kfs_maps.proofs.ChunksLemmas.Sorted.{order_by}
use Rattle.kfs_maps.proofs.chunks.entries.Entries.merged.Goals as goal

pub invariant_of-result : goal.invariant_of-result
invariant_of-result g c =
    let order = order_by g.K.Key.order g.K.Ord.cmp g.met.K.Key.compared in
    subst (λ es. T (is_sorted g.K.Ord.cmp es)) (sym (c.in_ok-pairs.ensures ∙ ap (λ es. entered_all g.K.Ord.cmp es c.args.edits.now) c.deref.ensures.value)) (is_sorted-all order c.self.inside.pairs.items c.args.edits.now c.self.invariant)
