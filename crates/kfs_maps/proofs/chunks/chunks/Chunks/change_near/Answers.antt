use Rattle.std.proofs.Common.{◌≡◌, ◌∙◌, true, ap, subst, sym, arith, T}
use Rattle.std.proofs.lemmas.List.{with_items_is}
use Rattle.std.specs.Vec.{with_items}
use Rattle.std.specs.FinMap.Entries.{is_sorted}
use Rattle.kfs_maps.specs.Chunks.Edits.{entered_all, KeysAscend}
use Rattle.kfs_maps.specs.Chunks.Joined.{joined, were_made, AreFilled}
use Rattle.kfs_maps.proofs.ChunksLemmas.Rewritten.{is_sorted-all}
use Rattle.kfs_maps.proofs.ChunksLemmas.Sorted.{order_by}
use Rattle.kfs_maps.proofs.ChunksLemmas.Together.{took_first}
use Rattle.kfs_maps.proofs.chunks.chunks.Chunks.change_near.Goals as goal

pub change_parts-requires-clause-ascend : goal.change_parts-requires-clause-ascend
change_parts-requires-clause-ascend g c = subst (λ cmp. KeysAscend cmp c.args.edits.now) (sym g.met.K.Key.compared) c.requires.edits

pub invariant_of-self-then-branch : goal.invariant_of-self-then-branch
invariant_of-self-then-branch g c =
    let cmp = g.K.Ord.cmp in
    let order = order_by g.K.Key.order cmp g.met.K.Key.compared in
    let es = c.args.edits.now in
    let old = c.self.inside.parts.items in
    let new = c.change_parts.new.parts in
    let written : (with_items c.self.inside.parts new).items ≡ new = with_items_is c.self.inside.parts new (omega (arith, c.change_parts.auto.parts, c.as_mut_slice.ensures.len)) in
    let done : were_made c.change_parts.result ≡ true = ap were_made c.in_ok-change_parts.was ∙ c.if-branch.true in
    let made : joined new ≡ entered_all cmp (joined old) es =
    took_first (were_made c.change_parts.result) _ _ _ c.change_parts.ensures.joined done ∙ ap (λ cs. entered_all cmp (joined cs) es) c.as_mut_slice.ensures.value in
    (subst (λ es. T (is_sorted cmp es)) (sym (ap joined written ∙ made)) (is_sorted-all order (joined old) es c.self.invariant.0), subst AreFilled (sym written) c.change_parts.ensures.filled)
