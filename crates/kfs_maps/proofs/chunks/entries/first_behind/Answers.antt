use Rattle.std.proofs.Common.{rules, ◌≡◌, ◌+◌, ◌≤◌, ◌∙◌, T, length, drop, ap, sym, subst, arith}
use Rattle.std.specs.declared.ops.Bound.TheVariants.{Included}
use Rattle.std.specs.FinMap.Entries.{is_sorted}
use Rattle.kfs_maps.specs.Chunks.Starts.{is_from, first_from}
use Rattle.kfs_maps.proofs.ChunksLemmas.Order.{before_rest, before_within}
use Rattle.kfs_maps.proofs.ChunksLemmas.Recut.{sorted_drop}
use Rattle.kfs_maps.proofs.chunks.entries.first_behind.Goals as goal

pub split_at-requires : goal.split_at-requires
split_at-requires g c = omega (arith, c.requires.from, before_within (λ e. is_from g.K.Ord.cmp (Included (g.Q.Sought.key c.args.key)) e.0) c.args.pairs.now)

pub first_from-requires : goal.first_from-requires
first_from-requires g c = subst (λ es. T (is_sorted g.K.Ord.cmp es)) (sym c.split_at.ensures.back) (sorted_drop g.K.Ord.cmp c.args.from c.args.pairs.now c.requires.sorted)

pub overflow_add-result : goal.overflow_add-result
overflow_add-result g c =
    let key = (g.Q.Sought.key c.args.key) in
    let es = c.args.pairs.now in
    let found = before_rest (λ e. is_from g.K.Ord.cmp (Included key) e.0) es c.args.from c.requires.from in
    let first : c.first_from.result ≡ first_from g.K.Ord.cmp (Included key) (drop c.args.from es) = c.first_from.ensures ∙ ap (first_from g.K.Ord.cmp (Included key)) c.split_at.ensures.back in
    let within : c.args.from + c.first_from.result ≤ length es = omega (arith, found, first, before_within (λ e. is_from g.K.Ord.cmp (Included key) e.0) es) in
    search rules

pub returns : goal.returns
returns g c =
    ap (λ n. c.args.from + n) (c.first_from.ensures ∙ ap (first_from g.K.Ord.cmp (Included (g.Q.Sought.key c.args.key))) c.split_at.ensures.back)
    ∙ before_rest (λ e. is_from g.K.Ord.cmp (Included (g.Q.Sought.key c.args.key)) e.0) c.args.pairs.now c.args.from c.requires.from
