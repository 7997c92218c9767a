use Rattle.std.proofs.Common.{length, ap, sym, ◌∙◌, arith, Some}
use Rattle.std.specs.FinMap.Entries.{find}
use Rattle.kfs_maps.proofs.ChunksLemmas.Sorted.{order_by, searched, StandsAt, stands_where}
use Rattle.kfs_maps.proofs.chunks.entries.Entries.get_near.Goals as goal

pub index-requires : goal.index-requires
index-requires g c =
    let order = order_by g.K.Key.order g.K.Ord.cmp g.met.K.Key.compared in
    let held : StandsAt order (g.Q.Sought.key c.args.key) c.self.inside.pairs.items c.in-Ok.at =
    stands_where order (g.Q.Sought.key c.args.key) c.self.inside.pairs.items c.in-Ok.at c.self.invariant (ap (searched order (g.Q.Sought.key c.args.key)) (sym c.deref.ensures.value) ∙ sym c.search_near.ensures ∙ c.in-Ok.is) in
    omega (arith, held.within, c.deref.ensures.len, ap length c.deref.ensures.value)

pub returns-in-Ok : goal.returns-in-Ok
returns-in-Ok g c =
    let order = order_by g.K.Key.order g.K.Ord.cmp g.met.K.Key.compared in
    let held : StandsAt order (g.Q.Sought.key c.args.key) c.self.inside.pairs.items c.in-Ok.at =
    stands_where order (g.Q.Sought.key c.args.key) c.self.inside.pairs.items c.in-Ok.at c.self.invariant (ap (searched order (g.Q.Sought.key c.args.key)) (sym c.deref.ensures.value) ∙ sym c.search_near.ensures ∙ c.in-Ok.is) in
    ap (λ e. Some e.1) c.index.ensures ∙ sym (held.value c.index.result.now) ∙ ap (λ s. find g.K.Ord.cmp (g.Q.Sought.key c.args.key) s.pairs) c.self.view_is
