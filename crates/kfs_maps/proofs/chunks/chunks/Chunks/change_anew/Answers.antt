use Rattle.std.proofs.Common.{◌≡◌, subst, sym, T}
use Rattle.std.specs.FinMap.Entries.{is_sorted}
use Rattle.kfs_maps.specs.Chunks.Edits.{entered_all, KeysAscend}
use Rattle.kfs_maps.specs.Chunks.Joined.{joined}
use Rattle.kfs_maps.proofs.ChunksLemmas.Rewritten.{is_sorted-all}
use Rattle.kfs_maps.proofs.ChunksLemmas.Sorted.{order_by}
use Rattle.kfs_maps.proofs.chunks.chunks.Chunks.change_anew.Goals as goal

pub rebuilt-requires-clause-ascend : goal.rebuilt-requires-clause-ascend
rebuilt-requires-clause-ascend g c = subst (λ cmp. KeysAscend cmp c.args.edits.now) (sym g.met.K.Key.compared) c.requires.edits

pub invariant_of-self : goal.invariant_of-self
invariant_of-self g c =
    let cmp = g.K.Ord.cmp in
    let order = order_by g.K.Key.order cmp g.met.K.Key.compared in
    let es = c.args.edits.now in
    let old = c.self.inside.parts.items in
    let made : joined c.in_ok-parts.parts.items ≡ entered_all cmp (joined old) es = c.in_ok-parts.ensures.joined in
    (subst (λ es. T (is_sorted cmp es)) (sym made) (is_sorted-all order (joined old) es c.self.invariant.0), c.in_ok-parts.ensures.fit)
