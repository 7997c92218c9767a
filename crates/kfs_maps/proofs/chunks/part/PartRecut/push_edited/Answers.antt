use Rattle.std.proofs.Common.{◌≡◌, ◌∷◌, ◌++◌, [], ◌∙◌, T, rules, sym, ap, subst}
use Rattle.std.proofs.lemmas.List.{nil_from_length}
use Rattle.std.specs.Prelude.{OnOk}
use Rattle.std.specs.FinMap.Entries.{is_sorted}
use Rattle.kfs_maps.specs.Chunks.Edits.{entered_all}
use Rattle.kfs_maps.specs.Chunks.Buffer.{Buffer}
use Rattle.kfs_maps.specs.Chunks.Joined.{joined, IsNotEmpty, AreFilled, AreSized}
use Rattle.kfs_maps.proofs.ChunksLemmas.Recut.{joined-push, each-push}
use Rattle.kfs_maps.proofs.ChunksLemmas.Rewritten.{is_sorted-all}
use Rattle.kfs_maps.proofs.ChunksLemmas.Sorted.{order_by}
use Rattle.kfs_maps.proofs.chunks.part.PartRecut.push_edited.Goals as goal

pub returns-then-is_empty-clause-joined : goal.returns-then-is_empty-clause-joined
returns-then-is_empty-clause-joined g c =
    let part = c.in_ok-clone.field-0 in
    let items : c.push.new.self.items ≡ c.args.new.now.items ++ part ∷ [] = c.in_ok-push.ensures.items in
    let value : part.value ≡ c.args.part.now.value = search rules in
    let none : c.args.edits.now ≡ [] = nil_from_length c.args.edits.now (search rules) in
    ap joined items
    ∙ joined-push c.args.new.now.items part
    ∙ ap (λ held. joined c.args.new.now.items ++ held.pairs) value
    ∙ ap (λ edits. joined c.args.new.now.items ++ entered_all g.K.Ord.cmp c.args.part.now.value.pairs edits) (sym none)

pub returns-then-is_empty-clause-fit : goal.returns-then-is_empty-clause-fit
returns-then-is_empty-clause-fit g c =
    let part = c.in_ok-clone.field-0 in
    let items : c.push.new.self.items ≡ c.args.new.now.items ++ part ∷ [] = c.in_ok-push.ensures.items in
    let value : part.value ≡ c.args.part.now.value = search rules in
    subst AreFilled (sym items) (each-push IsNotEmpty c.args.new.now.items part c.requires.fit (subst (λ held. IsNotEmpty held.pairs) (sym value) c.requires.fits))

pub cut_parts-requires-clause-sorted : goal.cut_parts-requires-clause-sorted
cut_parts-requires-clause-sorted g c =
    let order = order_by g.K.Key.order g.K.Ord.cmp g.met.K.Key.compared in
    let es = c.args.edits.now in
    let made = ap joined c.deref-2.ensures.value ∙ c.in_ok-rebuilt.ensures.joined ∙ ap (λ (held : Buffer _ _). entered_all g.K.Ord.cmp held.pairs es) (c.behind-part.view_is ∙ c.deref.ensures) in
    subst (λ xs. T (is_sorted g.K.Ord.cmp xs)) (sym made) (is_sorted-all order c.args.part.now.value.pairs es c.requires.sorted)

pub cut_parts-requires-clause-sized : goal.cut_parts-requires-clause-sized
cut_parts-requires-clause-sized g c = subst AreSized (sym c.deref-2.ensures.value) c.in_ok-rebuilt.ensures.fit

pub returns-clause-joined : goal.returns-clause-joined
returns-clause-joined g c =
    let made = ap joined c.deref-2.ensures.value ∙ c.in_ok-rebuilt.ensures.joined ∙ ap (λ (held : Buffer _ _). entered_all g.K.Ord.cmp held.pairs c.args.edits.now) (c.behind-part.view_is ∙ c.deref.ensures) in
    subst (λ es. OnOk c.cut_parts.result (joined c.cut_parts.new.new.items ≡ joined c.args.new.now.items ++ es)) made c.cut_parts.ensures.joined
