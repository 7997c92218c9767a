use Rattle.std.proofs.Common.{rules, ◌≡◌, ◌<◌, ◌≤◌, ◌∙◌, length, ap, sym, subst, arith, get_or}
use Rattle.std.specs.Option.{option_copied}
use Rattle.std.specs.declared.ops.Bound.TheVariants.{Included}
use Rattle.std.specs.FinMap.Entries.{find}
use Rattle.kfs_maps.specs.Chunks.Buffer.{Buffer}
use Rattle.kfs_maps.specs.Chunks.Joined.{joined, first_chunk_from, AreFilled}
use Rattle.kfs_maps.proofs.ChunksLemmas.FirstEntries.{find_none}
use Rattle.kfs_maps.proofs.ChunksLemmas.Parts.{past_place, found_in_place}
use Rattle.kfs_maps.proofs.ChunksLemmas.Sorted.{order_by}
use Rattle.kfs_maps.proofs.chunks.chunks.Chunks.get.Goals as goal

pub place-requires-clause-filled : goal.place-requires-clause-filled
place-requires-clause-filled g c = subst AreFilled (sym c.deref-2.ensures.value) c.self.invariant.1

pub returns-in_err-part : goal.returns-in_err-part
returns-in_err-part g c =
    let cmp = g.K.Ord.cmp in
    let q = c.args.key.now in
    let cs = c.self.inside.parts.items in
    let order = order_by g.K.Key.order cmp g.met.K.Key.compared in
    let at : c.place.result ≡ first_chunk_from cmp (Included q) cs = search rules in
    let past : length cs ≤ c.place.result = search rules in
    ap option_copied c.from_residual.ensures
    ∙ sym (find_none order q (joined cs) c.self.invariant.0 (past_place cmp (Included q) cs (omega (arith, at, past))))
    ∙ ap (λ compare. find compare q (joined cs)) g.met.K.Key.compared
    ∙ ap (find g.K.Key.order.compare q) c.self.view_is

pub returns : goal.returns
returns g c =
    let cmp = g.K.Ord.cmp in
    let q = c.args.key.now in
    let cs = c.self.inside.parts.items in
    let order = order_by g.K.Key.order cmp g.met.K.Key.compared in
    let chunk = c.in_ok-part.part.now in
    let at : c.place.result ≡ first_chunk_from cmp (Included q) cs = search rules in
    let within : c.place.result < length cs = search rules in
    let here : chunk ≡ get_or cs c.place.result chunk = search rules in
    c.get-2.ensures
    ∙ ap (λ (x : Buffer _ _). find cmp q x.pairs) c.deref-3.ensures
    ∙ ap (λ chunk. find cmp q chunk.value.pairs) (here ∙ ap (λ k. get_or cs k chunk) at)
    ∙ sym (found_in_place order q cs chunk c.self.invariant.0 (omega (arith, at, within)))
    ∙ ap (λ compare. find compare q (joined cs)) g.met.K.Key.compared
    ∙ ap (find g.K.Key.order.compare q) c.self.view_is
