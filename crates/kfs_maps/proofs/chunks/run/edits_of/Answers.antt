use Rattle.std.proofs.Common.{rules, ◌≡◌, ◌∙◌, ◌∷◌, ◌+◌, T, All, None, true, false, ap, sym, subst, take, drop, slice_index_or}
use Rattle.std.specs.FinMap.Entries.{below_all}
use Rattle.std.specs.declared.ops.Bound.TheVariants.{Included}
use Rattle.std.proofs.lemmas.List.Sorted.{IsPartitionPoint-from_clause}
use Rattle.kfs_maps.specs.declared.chunks.entries.KeyEdit.{KeyEdit}
use Rattle.kfs_maps.specs.Chunks.Starts.{reaches, entry_from}
use Rattle.kfs_maps.specs.Chunks.Edits.{KeysAscend}
use Rattle.kfs_maps.specs.Chunks.Joined.{joined_by}
use Rattle.kfs_maps.proofs.ChunksLemmas.Order.{ascend_drop}
use Rattle.kfs_maps.proofs.ChunksLemmas.Parts.{parted_edits, none_reaches, one_more_reaches, one_more_past, run_below, run_past}
use Rattle.kfs_maps.proofs.ChunksLemmas.Sorted.{order_by}
use Rattle.kfs_maps.proofs.chunks.run.edits_of.Goals as goal

pub returns-in-Some-clause-run : goal.returns-in-Some-clause-run
returns-in-Some-clause-run g c =
    let cmp = g.K.Ord.cmp in
    let xs = g.R.Run.entries c.args.run.now.value in
    let first = c.in-Some.first.now in
    let more = c.in-Some.more.now in
    let order = order_by g.K.Key.order cmp g.met.K.Key.compared in
    let whole : c.args.edits.now ≡ first ∷ more = c.in-Some.ensures.cases.0 in
    let ascend : KeysAscend cmp more = ascend_drop cmp (first ∷ more) 1 (subst (λ es. KeysAscend cmp es) whole c.requires.ascend) in
    let reached : reaches cmp (Included first.key) xs ≡ true = ap (λ held. reaches cmp (Included first.key) (g.R.Run.entries held)) (sym c.deref.ensures) ∙ sym c.reaches.ensures ∙ c.if-reaches.true in
    let point = IsPartitionPoint-from_clause (λ (e : KeyEdit _ _). reaches cmp (Included e.key) xs) _ _ c.partition_point.ensures.partitioned (parted_edits order xs more ascend) (λ a r q k. search rules) in
    subst (λ es. All (λ e. T (below_all cmp e.key (joined_by g.R.Run.entries c.args.rest.now))) (take (1 + c.partition_point.result) es)) (sym whole)
    (run_below order xs (joined_by g.R.Run.entries c.args.rest.now) (first ∷ more) (1 + c.partition_point.result) c.requires.sorted (one_more_reaches order xs first more c.partition_point.result reached point.0))

pub returns-in-Some-clause-rest : goal.returns-in-Some-clause-rest
returns-in-Some-clause-rest g c =
    let cmp = g.K.Ord.cmp in
    let xs = g.R.Run.entries c.args.run.now.value in
    let first = c.in-Some.first.now in
    let more = c.in-Some.more.now in
    let order = order_by g.K.Key.order cmp g.met.K.Key.compared in
    let whole : c.args.edits.now ≡ first ∷ more = c.in-Some.ensures.cases.0 in
    let ascend : KeysAscend cmp more = ascend_drop cmp (first ∷ more) 1 (subst (λ es. KeysAscend cmp es) whole c.requires.ascend) in
    let point = IsPartitionPoint-from_clause (λ (e : KeyEdit _ _). reaches cmp (Included e.key) xs) _ _ c.partition_point.ensures.partitioned (parted_edits order xs more ascend) (λ a r q k. search rules) in
    subst (λ es. All (λ e. entry_from cmp (Included e.key) xs ≡ None) (drop (1 + c.partition_point.result) es)) (sym whole)
    (run_past order xs (first ∷ more) (1 + c.partition_point.result) (one_more_past order xs first more c.partition_point.result point.1))

pub returns-in_default-clause-rest : goal.returns-in_default-clause-rest
returns-in_default-clause-rest g c =
    let cmp = g.K.Ord.cmp in
    let xs = g.R.Run.entries c.args.run.now.value in
    let es = c.args.edits.now in
    let order = order_by g.K.Key.order cmp g.met.K.Key.compared in
    let first = c.in-Some.first.now in
    let missed : reaches cmp (Included first.key) xs ≡ false = ap (λ held. reaches cmp (Included first.key) (g.R.Run.entries held)) (sym c.deref.ensures) ∙ sym c.reaches.ensures ∙ c.if-reaches.false in
    run_past order xs es 0 (none_reaches order xs es c.requires.ascend (λ d. ap (λ es. reaches cmp (Included (slice_index_or es 0 d).key) xs) c.in-Some.ensures.cases.0 ∙ missed))
