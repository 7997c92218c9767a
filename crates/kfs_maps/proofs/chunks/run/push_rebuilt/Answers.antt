use Rattle.std.proofs.Common.{◌≡◌, ◌∷◌, ◌++◌, [], ◌∙◌, T, All, None, rules, sym, ap, subst}
use Rattle.std.proofs.lemmas.List.{append_assoc, nil_from_length}
use Rattle.std.specs.declared.ops.Bound.TheVariants.{Included}
use Rattle.std.specs.FinMap.Entries.{is_sorted, below_all}
use Rattle.kfs_maps.specs.Chunks.Edits.{entered_all, KeysAscend}
use Rattle.kfs_maps.specs.Chunks.Joined.{joined_by, EachBy}
use Rattle.kfs_maps.specs.Chunks.Starts.{entry_from}
use Rattle.kfs_maps.proofs.ChunksLemmas.Order.{ascend_drop}
use Rattle.kfs_maps.proofs.ChunksLemmas.Parts.{sorted_left, sorted_right}
use Rattle.kfs_maps.proofs.ChunksLemmas.Rewritten.{parts_edited}
use Rattle.kfs_maps.proofs.ChunksLemmas.Sorted.{order_by}
use Rattle.kfs_maps.proofs.chunks.run.push_rebuilt.Goals as goal

pub loop-first-preserved : goal.loop-first-preserved
loop-first-preserved g c =
    let order = order_by g.K.Key.order g.K.Ord.cmp g.met.K.Key.compared in
    let entries = g.R.Run.entries in
    let es = entries c.in-Some.first.now.value in
    let rest = c.in-Some.rest.now in
    let mine = c.split_at.result.0.now in
    let others = c.split_at.result.1.now in
    let whole : c.loop-first.left.now ≡ c.in-Some.first.now ∷ rest = c.in-Some.ensures.cases.0 in
    let edits : c.loop-first.later.now ≡ mine ++ others = c.split_at.ensures.by_index.0 in
    let sorted : T (is_sorted g.K.Ord.cmp (es ++ joined_by entries rest)) = subst (λ runs. T (is_sorted g.K.Ord.cmp (joined_by entries runs))) whole c.loop-first.invariant.sorted in
    let fit : g.R.Recut.fits es × EachBy entries g.R.Recut.fits rest = subst (λ runs. EachBy entries g.R.Recut.fits runs) whole c.loop-first.invariant.left in
    let below : All (λ e. T (below_all g.K.Ord.cmp e.key (joined_by entries rest))) mine =
    subst (λ es. All (λ e. T (below_all g.K.Ord.cmp e.key (joined_by entries rest))) es) (sym c.split_at.ensures.front) c.edits_of.ensures.run in
    let none : All (λ e. entry_from g.K.Ord.cmp (Included e.key) es ≡ None) others =
    subst (λ later. All (λ e. entry_from g.K.Ord.cmp (Included e.key) es ≡ None) later) (sym c.split_at.ensures.back) c.edits_of.ensures.rest in
    record {
      ascend = subst (λ es. KeysAscend g.K.Ord.cmp es) (sym c.split_at.ensures.back) (ascend_drop g.K.Ord.cmp c.loop-first.later.now c.edits_of.result c.loop-first.invariant.ascend);
      sorted = sorted_right g.K.Ord.cmp es (joined_by entries rest) sorted;
      left = fit.1;
      fit = c.in_ok-push_edited.ensures.fit;
      joined =
          ap (λ done. done ++ entered_all g.K.Ord.cmp (joined_by entries rest) others) c.in_ok-push_edited.ensures.joined
          ∙ append_assoc (joined_by entries c.loop-first.new.items) (entered_all g.K.Ord.cmp es mine) (entered_all g.K.Ord.cmp (joined_by entries rest) others)
          ∙ ap (λ more. joined_by entries c.loop-first.new.items ++ more) (sym (parts_edited order es (joined_by entries rest) mine others (subst (λ es. KeysAscend g.K.Ord.cmp es) edits c.loop-first.invariant.ascend) below none))
          ∙ (λ i. joined_by entries c.loop-first.new.items ++ entered_all g.K.Ord.cmp (joined_by entries (sym whole i)) (sym edits i))
          ∙ c.loop-first.invariant.joined;
    }

pub push_edited-requires-clause-sorted : goal.push_edited-requires-clause-sorted
push_edited-requires-clause-sorted g c =
    let entries = g.R.Run.entries in
    sorted_left g.K.Ord.cmp (entries c.in-Some.first.now.value) (joined_by entries c.in-Some.rest.now) (subst (λ runs. T (is_sorted g.K.Ord.cmp (joined_by entries runs))) c.in-Some.ensures.cases.0 c.loop-first.invariant.sorted)

pub returns-clause-joined : goal.returns-clause-joined
returns-clause-joined g c =
    let entries = g.R.Run.entries in
    let none : c.loop-first.left.now ≡ [] = nil_from_length c.loop-first.left.now (search rules) in
    c.in_ok-push_fresh.ensures.joined
    ∙ ap (λ es. joined_by entries c.loop-first.new.items ++ entered_all g.K.Ord.cmp es c.loop-first.later.now) (ap (joined_by entries) (sym none))
    ∙ c.loop-first.invariant.joined
