use Rattle.std.proofs.Common.{rules, ◌≡◌, ◌∙◌, ◌<◌, ◌-◌, length, get_or, ap, sym, arith}
use Rattle.std.specs.Range.Bound.{bound_map}
use Rattle.kfs_maps.specs.Chunks.Starts.{is_from, reaches}
use Rattle.kfs_maps.proofs.ChunksLemmas.Parts.{reaches_last}
use Rattle.kfs_maps.proofs.ChunksLemmas.Sorted.{order_by}
use Rattle.kfs_maps.proofs.chunks.entries.EntriesRun.reaches.Goals as goal

pub returns-in-Some : goal.returns-in-Some
returns-in-Some g c =
    let cmp = g.K.Ord.cmp in
    let start = bound_map g.Q.Sought.key c.args.start.now in
    let order = order_by g.K.Key.order cmp g.met.K.Key.compared in
    let es = c.deref.result.now in
    let pair = c.in-Some.field-0.now in
    let some : 0 < length es = search rules in
    let here : pair ≡ get_or es (length es - 1) pair = search rules in
    let all : es ≡ c.self.inside.pairs.items = c.deref.ensures.value in
    c.is_from.ensures
    ∙ ap (λ (e : g.row.K.Denot × g.row.V.Denot). is_from cmp start e.0) (here ∙ ap (λ es. get_or es (length es - 1) pair) all)
    ∙ sym (reaches_last order start c.self.inside.pairs.items (length c.self.inside.pairs.items - 1) pair c.self.invariant (omega (arith, some, ap length all)))
    ∙ ap (λ s. reaches cmp start s.pairs) c.self.view_is
