use Rattle.std.proofs.Common.{◌≡◌, ◌∙◌, ◌++◌, ◌∷◌, ◌-◌, T, length, ap, sym, subst, take, drop, arith, length-drop}
use Rattle.std.proofs.lemmas.List.{take-append-drop, take_all}
use Rattle.std.specs.FinMap.Entries.{is_sorted}
use Rattle.kfs_maps.specs.Chunks.Joined.{joined, AreFilled}
use Rattle.kfs_maps.proofs.ChunksLemmas.Parts.{sorted_behind, sized_filled}
use Rattle.kfs_maps.proofs.chunks.part.Part.takes_first.Goals as goal

pub place_near-requires-clause-filled : goal.place_near-requires-clause-filled
place_near-requires-clause-filled g c = subst AreFilled (sym c.deref.ensures.value) (sized_filled c.self.inside.chunks.items c.self.invariant.1)

pub edits_of-requires-clause-sorted : goal.edits_of-requires-clause-sorted
edits_of-requires-clause-sorted g c =
    let cmp = g.K.Ord.cmp in
    let cs = c.self.inside.chunks.items in
    let index = c.min-index.result in
    let chunk = c.in-Some-split_first.chunk.now in
    let rest = c.in-Some-split_first.rest.now in
    let held = c.deref-2.result.now in
    let whole : cs ≡ take index held ++ chunk ∷ rest =
    sym c.deref-2.ensures.value
    ∙ sym (take-append-drop index held)
    ∙ ap (λ back. take index held ++ back) (sym (take_all (length held - index) (drop index held) (omega (arith, length-drop index held))) ∙ c.in-Some-split_first.ensures.cases.0) in
    sorted_behind cmp (take index held) chunk rest (subst (λ cs. T (is_sorted cmp (joined cs))) whole c.self.invariant.0)
