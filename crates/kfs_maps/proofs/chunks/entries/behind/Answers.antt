use Rattle.std.proofs.Common.{◌≡◌, ◌∷◌, ◌∙◌, T, true, false, None, sym, ap, subst}
use Rattle.std.specs.declared.ops.Bound.TheVariants.{Included}
use Rattle.std.specs.Ordering.{is_eq, eq_by_cmp}
use Rattle.std.specs.FinMap.Entries.{is_sorted}
use Rattle.kfs_maps.specs.Chunks.Edits.{entered}
use Rattle.kfs_maps.specs.Chunks.Starts.{first_from}
use Rattle.kfs_maps.proofs.ChunksLemmas.Recut.{without_first, without_other}
use Rattle.kfs_maps.proofs.ChunksLemmas.Sorted.{order_by}
use Rattle.kfs_maps.proofs.chunks.entries.behind.Goals as goal

pub returns-then-is_eq : goal.returns-then-is_eq
returns-then-is_eq g c =
    let order = order_by g.K.Key.order g.K.Ord.cmp g.met.K.Key.compared in
    let whole : c.args.entries.now ≡ c.in-Some.first.now ∷ c.in-Some.rest.now = c.in-Some.ensures.cases.0 in
    let same : eq_by_cmp g.K.Ord.cmp c.in-Some.first.now.0 c.args.key.now ≡ true = ap is_eq (sym c.cmp.ensures) ∙ sym c.is_eq.ensures ∙ c.if-is_eq.true in
    let sorted = subst (λ es. T (is_sorted g.K.Ord.cmp es)) whole c.requires.sorted in
    sym (ap (λ es. entered g.K.Ord.cmp es c.args.key.now None) whole ∙ without_first order c.args.key.now c.in-Some.first.now c.in-Some.rest.now sorted same)

pub returns-else-is_eq : goal.returns-else-is_eq
returns-else-is_eq g c =
    let order = order_by g.K.Key.order g.K.Ord.cmp g.met.K.Key.compared in
    let whole : c.args.entries.now ≡ c.in-Some.first.now ∷ c.in-Some.rest.now = c.in-Some.ensures.cases.0 in
    let other : eq_by_cmp g.K.Ord.cmp c.in-Some.first.now.0 c.args.key.now ≡ false = ap is_eq (sym c.cmp.ensures) ∙ sym c.is_eq.ensures ∙ c.if-is_eq.false in
    let sorted = subst (λ es. T (is_sorted g.K.Ord.cmp es)) whole c.requires.sorted in
    let from = subst (λ es. first_from g.K.Ord.cmp (Included c.args.key.now) es ≡ 0) whole c.requires.from in
    whole ∙ sym (ap (λ es. entered g.K.Ord.cmp es c.args.key.now None) whole ∙ without_other order c.args.key.now c.in-Some.first.now c.in-Some.rest.now sorted from other)
