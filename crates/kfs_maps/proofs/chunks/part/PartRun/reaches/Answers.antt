use Rattle.std.proofs.Common.{rules, ◌≡◌, ◌∙◌, ◌<◌, ◌-◌, length, get_or, ap, sym, arith}
use Rattle.std.specs.Range.Bound.{bound_map}
use Rattle.kfs_maps.specs.Chunks.Buffer.{Buffer}
use Rattle.kfs_maps.specs.Chunks.Starts.{reaches}
use Rattle.kfs_maps.proofs.ChunksLemmas.Parts.{reaches_behind, sized_filled}
use Rattle.kfs_maps.proofs.ChunksLemmas.Sorted.{order_by}
use Rattle.kfs_maps.proofs.chunks.part.PartRun.reaches.Goals as goal

pub returns-in-Some : goal.returns-in-Some
returns-in-Some g c =
    let cmp = g.K.Ord.cmp in
    let start = bound_map g.Q.Sought.key c.args.start.now in
    let order = order_by g.K.Key.order cmp g.met.K.Key.compared in
    let cs = c.self.inside.chunks.items in
    let last = c.in-Some.last.now in
    let some : 0 < length cs = search rules in
    let here : last ≡ get_or cs (length cs - 1) last = search rules in
    c.reaches.ensures
    ∙ ap (λ (x : Buffer _ _). reaches cmp start x.pairs) c.deref-in-Some.ensures
    ∙ ap (λ chunk. reaches cmp start chunk.value.pairs) here
    ∙ sym (reaches_behind order start cs (length cs - 1) last c.self.invariant.0 (sized_filled cs c.self.invariant.1) (omega (arith, some)))
    ∙ ap (λ (s : Buffer _ _). reaches cmp start s.pairs) c.self.view_is
