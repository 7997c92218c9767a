use Rattle.std.proofs.Common.{rules, ◌≡◌, ◌<◌, ◌≤◌, ◌∙◌, length, ap, sym, subst, arith, get_or}
use Rattle.std.specs.Option.{option_copied}
use Rattle.std.specs.declared.ops.Bound.TheVariants.{Included}
use Rattle.std.specs.FinMap.Entries.{find}
use Rattle.kfs_maps.specs.Chunks.Buffer.{Buffer}
use Rattle.kfs_maps.specs.Chunks.Joined.{joined, first_chunk_from, AreFilled}
use Rattle.kfs_maps.proofs.ChunksLemmas.FirstEntries.{find_none}
use Rattle.kfs_maps.proofs.ChunksLemmas.Parts.{past_place, found_in_place, sized_filled}
use Rattle.kfs_maps.proofs.ChunksLemmas.Sorted.{order_by}
use Rattle.kfs_maps.proofs.chunks.part.Part.get_near.Goals as goal

pub place_near-at-requires-clause-filled : goal.place_near-at-requires-clause-filled
place_near-at-requires-clause-filled g c = subst AreFilled (sym c.deref.ensures.value) (sized_filled c.self.inside.chunks.items c.self.invariant.1)

pub returns-in_err-chunk : goal.returns-in_err-chunk
returns-in_err-chunk g c =
    let cmp = g.K.Ord.cmp in
    let q = (g.Q.Sought.key c.args.key) in
    let cs = c.self.inside.chunks.items in
    let order = order_by g.K.Key.order cmp g.met.K.Key.compared in
    let at : c.place_near-at.result ≡ first_chunk_from cmp (Included q) cs = search rules in
    let past : length cs ≤ c.place_near-at.result = search rules in
    ap option_copied c.from_residual.ensures
    ∙ sym (find_none order q (joined cs) c.self.invariant.0 (past_place cmp (Included q) cs (omega (arith, at, past))))
    ∙ ap (λ (s : Buffer _ _). find cmp q s.pairs) c.self.view_is

pub returns : goal.returns
returns g c =
    let cmp = g.K.Ord.cmp in
    let q = (g.Q.Sought.key c.args.key) in
    let cs = c.self.inside.chunks.items in
    let order = order_by g.K.Key.order cmp g.met.K.Key.compared in
    let chunk = c.in_ok-chunk.chunk.now in
    let at : c.place_near-at.result ≡ first_chunk_from cmp (Included q) cs = search rules in
    let within : c.place_near-at.result < length cs = search rules in
    let here : chunk ≡ get_or cs c.place_near-at.result chunk = search rules in
    c.get_near.ensures
    ∙ ap (λ (x : Buffer _ _). find cmp q x.pairs) c.deref-3.ensures
    ∙ ap (λ chunk. find cmp q chunk.value.pairs) (here ∙ ap (λ k. get_or cs k chunk) at)
    ∙ sym (found_in_place order q cs chunk c.self.invariant.0 (omega (arith, at, within)))
    ∙ ap (λ (s : Buffer _ _). find cmp q s.pairs) c.self.view_is
