use Rattle.std.proofs.Common.{◌≡◌, ◌+◌, ◌-◌, ◌∙◌, T, rules, arith, take, drop, ap, sym, subst}
use Rattle.std.specs.FinMap.Entries.{is_sorted}
use Rattle.kfs_maps.proofs.ChunksLemmas.Recut.{sorted_take, sorted_drop}
use Rattle.kfs_maps.proofs.chunks.entries.Entries.part.Goals as goal

pub invariant_of-result : goal.invariant_of-result
invariant_of-result g c =
    let es = c.self.inside.pairs.items in
    let copied : c.extend_from_slice.new.self.items ≡ take (c.args.from + c.args.count - c.args.from) (drop c.args.from c.deref.result.now) = search rules in
    let same : c.extend_from_slice.new.self.items ≡ take c.args.count (drop c.args.from es) =
    copied ∙ ap (λ n. take n (drop c.args.from c.deref.result.now)) (omega arith) ∙ ap (λ xs. take c.args.count (drop c.args.from xs)) c.deref.ensures.value in
    subst (λ es. T (is_sorted g.K.Ord.cmp es)) (sym same) (sorted_take g.K.Ord.cmp c.args.count (drop c.args.from es) (sorted_drop g.K.Ord.cmp c.args.from es c.self.invariant))
