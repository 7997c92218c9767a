use Rattle.std.proofs.Common.{rules, ◌≡◌, ◌≤◌, ◌++◌, [], ◌∙◌, T, None, length, take, drop, sym, ap, subst}
use Rattle.std.proofs.lemmas.List.{append-nil}
use Rattle.std.specs.declared.ops.Bound.TheVariants.{Included}
use Rattle.std.specs.FinMap.Entries.{is_sorted}
use Rattle.kfs_maps.specs.Chunks.Edits.{entered, entered_all}
use Rattle.kfs_maps.specs.Chunks.Starts.{is_from, first_from}
use Rattle.kfs_maps.proofs.ChunksLemmas.Order.{before_within}
use Rattle.kfs_maps.proofs.ChunksLemmas.Recut.{before-drop, sorted_drop, walk_step}
use Rattle.kfs_maps.proofs.ChunksLemmas.Sorted.{order_by, is_sorted-entered}
use Rattle.kfs_maps.proofs.chunks.entries.enter.Goals as goal
use Rattle.kfs_maps.proofs.chunks.entries.enter.Goals.{in-Some+in_ok-push, in_default}

pub split_at-requires : goal.split_at-requires
split_at-requires g c = subst (λ n. n ≤ length c.args.left.now) (sym c.first_from.ensures) (before_within (λ e. is_from g.K.Ord.cmp (Included c.args.edit.now.key) e.0) c.args.left.now)

pub behind-requires-clause-sorted : goal.behind-requires-clause-sorted
behind-requires-clause-sorted g c = subst (λ es. T (is_sorted g.K.Ord.cmp es)) (sym c.split_at.ensures.back) (sorted_drop g.K.Ord.cmp c.first_from.result c.args.left.now c.requires)

pub behind-requires-clause-from : goal.behind-requires-clause-from
behind-requires-clause-from g c =
    ap (λ es. first_from g.K.Ord.cmp (Included c.args.edit.now.key) es) (c.split_at.ensures.back ∙ ap (λ n. drop n c.args.left.now) c.first_from.ensures)
    ∙ before-drop (λ e. is_from g.K.Ord.cmp (Included c.args.edit.now.key) e.0) c.args.left.now

pub returns-clause-sorted : goal.returns-clause-sorted
returns-clause-sorted g c =
    let order = order_by g.K.Key.order g.K.Ord.cmp g.met.K.Key.compared in
    let back = drop c.first_from.result c.args.left.now in
    let same : c.behind.result.now ≡ entered g.K.Ord.cmp back c.args.edit.now.key None = c.behind.ensures ∙ ap (λ es. entered g.K.Ord.cmp es c.args.edit.now.key None) c.split_at.ensures.back in
    subst (λ es. T (is_sorted g.K.Ord.cmp es)) (sym same) (is_sorted-entered order back c.args.edit.now.key None (sorted_drop g.K.Ord.cmp c.first_from.result c.args.left.now c.requires))

pub returns-clause-passed : goal.returns-clause-passed
returns-clause-passed g c later less =
    let order = order_by g.K.Key.order g.K.Ord.cmp g.met.K.Key.compared in
    let edit = c.args.edit.now in
    let es = c.args.left.now in
    let rest : c.behind.result.now ≡ entered g.K.Ord.cmp (drop (first_from g.K.Ord.cmp (Included edit.key) es) es) edit.key None =
    c.behind.ensures ∙ ap (λ es. entered g.K.Ord.cmp es edit.key None) (c.split_at.ensures.back ∙ ap (λ n. drop n es) c.first_from.ensures) in
    let below : c.extend_from_slice.new.self.items ≡ c.args.merged.now.items ++ c.split_at.result.0.now = search rules in
    let copied : c.extend_from_slice.new.self.items ≡ c.args.merged.now.items ++ take (first_from g.K.Ord.cmp (Included edit.key) es) es =
    below ∙ ap (λ front. c.args.merged.now.items ++ front) (c.split_at.ensures.front ∙ ap (λ n. take n es) c.first_from.ensures) in
    let own : c.match-edit.merged.items ≡ c.extend_from_slice.new.self.items ++ entered g.K.Ord.cmp [] edit.key edit.value =
    elim c.match-edit.branch [
      | in-Some+in_ok-push w ↦
          ap (λ merged. merged.items) w.merged-is
          ∙ w.in_ok-push.ensures.items
          ∙ ap (λ value. c.extend_from_slice.new.self.items ++ entered g.K.Ord.cmp [] edit.key value) (sym w.in-Some.is)
      | in_default w ↦
          ap (λ merged. merged.items) w.merged-is
          ∙ sym (append-nil c.extend_from_slice.new.self.items)
          ∙ ap (λ value. c.extend_from_slice.new.self.items ++ entered g.K.Ord.cmp [] edit.key value) (sym w.in_default.is)
    ] in
    ap (λ items. items ++ entered_all g.K.Ord.cmp c.behind.result.now later) (own ∙ ap (λ items. items ++ entered g.K.Ord.cmp [] edit.key edit.value) copied)
    ∙ ap (λ left. ((c.args.merged.now.items ++ take (first_from g.K.Ord.cmp (Included edit.key) es) es) ++ entered g.K.Ord.cmp [] edit.key edit.value) ++ entered_all g.K.Ord.cmp left later) rest
    ∙ walk_step order c.args.merged.now.items es edit later c.requires less
