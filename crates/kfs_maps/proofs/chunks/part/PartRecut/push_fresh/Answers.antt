use Rattle.std.proofs.Common.{◌≡◌, ◌++◌, [], ◌∙◌, T, ap, sym, subst}
use Rattle.std.specs.Prelude.{OnOk}
use Rattle.std.specs.FinMap.Entries.{is_sorted}
use Rattle.kfs_maps.specs.Chunks.Edits.{entered_all}
use Rattle.kfs_maps.specs.Chunks.Joined.{joined, AreSized}
use Rattle.kfs_maps.proofs.ChunksLemmas.Rewritten.{is_sorted-all}
use Rattle.kfs_maps.proofs.ChunksLemmas.Sorted.{order_by}
use Rattle.kfs_maps.proofs.chunks.part.PartRecut.push_fresh.Goals as goal

pub cut_parts-requires-clause-sorted : goal.cut_parts-requires-clause-sorted
cut_parts-requires-clause-sorted g c =
    let cmp = g.K.Ord.cmp in
    let order = order_by g.K.Key.order cmp g.met.K.Key.compared in
    let es = c.args.edits.now in
    let made : joined c.deref.result.now ≡ entered_all cmp [] es = ap joined c.deref.ensures.value ∙ c.in_ok-push_fresh.ensures.joined ∙ ap (λ chunks. joined chunks ++ entered_all cmp [] es) c.new-chunks.ensures.items in
    subst (λ xs. T (is_sorted cmp xs)) (sym made) (is_sorted-all order [] es tt)

pub cut_parts-requires-clause-sized : goal.cut_parts-requires-clause-sized
cut_parts-requires-clause-sized g c = subst AreSized (sym c.deref.ensures.value) c.in_ok-push_fresh.ensures.fit

pub returns-clause-joined : goal.returns-clause-joined
returns-clause-joined g c =
    let cmp = g.K.Ord.cmp in
    let es = c.args.edits.now in
    let made : joined c.deref.result.now ≡ entered_all cmp [] es = ap joined c.deref.ensures.value ∙ c.in_ok-push_fresh.ensures.joined ∙ ap (λ chunks. joined chunks ++ entered_all cmp [] es) c.new-chunks.ensures.items in
    subst (λ xs. OnOk c.cut_parts.result (joined c.cut_parts.new.new.items ≡ joined c.args.new.now.items ++ xs)) made c.cut_parts.ensures.joined
