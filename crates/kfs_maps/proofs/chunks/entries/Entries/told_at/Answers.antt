use Rattle.std.proofs.Common.{rules, ◌≡◌, ◌∙◌, ◌<◌, ◌-◌, suc, true, length, get_or, ap, sym, subst, Some, None, arith}
use Rattle.std.specs.Ordering.{is_lt}
use Rattle.std.specs.declared.cmp.Ordering.TheVariants.{Less, Equal}
use Rattle.std.specs.FinMap.Entries.{find}
use Rattle.kfs_maps.specs.Chunks.Buffer.{Buffer}
use Rattle.kfs_maps.specs.Chunks.Joined.{Tells}
use Rattle.kfs_maps.proofs.ChunksLemmas.FirstHere.{found_tells, between_tells}
use Rattle.kfs_maps.proofs.ChunksLemmas.Sorted.{order_by, find_itself}
use Rattle.kfs_maps.proofs.chunks.entries.Entries.told_at.Goals as goal

pub returns-in-Equal : goal.returns-in-Equal
returns-in-Equal g c =
    let cmp = g.K.Ord.cmp in
    let q = (g.Q.Sought.key c.args.key) in
    let es = c.self.inside.pairs.items in
    let order = order_by g.K.Key.order cmp g.met.K.Key.compared in
    let pair = c.in_ok-there.field-0.now in
    let within : c.args.index < length es = search rules in
    let here : pair ≡ get_or es c.args.index pair = search rules in
    let tied : cmp q pair.0 ≡ Equal = search rules in
    let held : find cmp q es ≡ Some pair.1 =
    ap (λ k. find cmp k es) (order.exact q pair.0 tied ∙ ap (λ e. e.0) here) ∙ find_itself order es c.args.index pair c.self.invariant within ∙ ap (λ e. Some e.1) (sym here) in
    subst (λ (s : Buffer _ _). Tells cmp q s.pairs (Some pair.1)) c.self.view_is (λ xs ys all. found_tells order q es pair.1 held xs ys all ∙ held)

pub returns-in-Less : goal.returns-in-Less
returns-in-Less g c =
    let cmp = g.K.Ord.cmp in
    let q = (g.Q.Sought.key c.args.key) in
    let es = c.self.inside.pairs.items in
    let order = order_by g.K.Key.order cmp g.met.K.Key.compared in
    let pair = c.in_ok-there.field-0.now in
    let one = c.index.result.now in
    let within : c.args.index < length es = search rules in
    let some : 0 < c.args.index = search rules in
    let here : pair ≡ get_or es c.args.index pair = search rules in
    let above : cmp q pair.0 ≡ Less = search rules in
    let below : is_lt (cmp one.0 q) ≡ true = search rules in
    subst (λ (s : Buffer _ _). Tells cmp q s.pairs None) c.self.view_is
    (between_tells order q es (c.args.index - 1) one pair (omega (arith, within, some))
    (ap (λ e. is_lt (cmp e.0 q)) (sym c.index.ensures) ∙ below)
    (ap (λ k. cmp q (get_or es k pair).0) {x = suc (c.args.index - 1)} {y = c.args.index} (omega (arith, some)) ∙ ap (λ e. cmp q e.0) (sym here) ∙ above))
