use Rattle.std.proofs.Common.{rules, ◌≡◌, ◌∙◌, ◌<◌, ◌-◌, true, length, get_or, ap, sym, subst, arith}
use Rattle.std.specs.declared.ops.Bound.TheVariants.{Included}
use Rattle.kfs_maps.specs.Chunks.Buffer.{Buffer}
use Rattle.kfs_maps.specs.Chunks.Joined.{joined, TellsAlone}
use Rattle.kfs_maps.specs.Chunks.Starts.{reaches}
use Rattle.kfs_maps.proofs.ChunksLemmas.FirstHere.{inner_tells}
use Rattle.kfs_maps.proofs.ChunksLemmas.Parts.{sized_filled}
use Rattle.kfs_maps.proofs.ChunksLemmas.Sorted.{order_by}
use Rattle.kfs_maps.proofs.chunks.part.Part.inner_chunk.Goals as goal

pub returns : goal.returns
returns g c =
    let cmp = g.K.Ord.cmp in
    let q = (g.Q.Sought.key c.args.key) in
    let cs = c.self.inside.chunks.items in
    let order = order_by g.K.Key.order cmp g.met.K.Key.compared in
    let chunk = c.in_ok-chunk.chunk.now in
    let one = c.index.result.now in
    let within : c.args.index < length cs = search rules in
    let some : 0 < c.args.index = search rules in
    let here : chunk ≡ get_or cs c.args.index chunk = search rules in
    let reached : reaches cmp (Included q) (get_or cs c.args.index chunk).value.pairs ≡ true =
    ap (λ chunk. reaches cmp (Included q) chunk.value.pairs) (sym here) ∙ ap (λ (x : Buffer _ _). reaches cmp (Included q) x.pairs) (sym c.deref-2.ensures) ∙ sym c.reaches.ensures ∙ c.if-not-reaches.false in
    subst (λ (s : Buffer _ _). TellsAlone cmp q s.pairs chunk.value.pairs) c.self.view_is
    (subst (λ chunk. TellsAlone cmp q (joined cs) chunk.value.pairs) (sym here)
    (inner_tells order q cs c.args.index chunk one c.self.invariant.0 (sized_filled cs c.self.invariant.1) some within reached (λ j next.
    ap (λ k. reaches cmp (Included q) (get_or cs k one).value.pairs) {x = j} {y = c.args.index - 1} (omega (arith, next))
    ∙ ap (λ chunk. reaches cmp (Included q) chunk.value.pairs) (sym c.index.ensures) ∙ ap (λ (x : Buffer _ _). reaches cmp (Included q) x.pairs) (sym c.deref-3.ensures) ∙ sym c.reaches-2.ensures ∙ c.if-reaches.false)))
