use Rattle.std.proofs.Common.{◌≡◌, ◌++◌, T, sym, ap, subst, ◌∙◌}
use Rattle.std.proofs.lemmas.List.{map-append}
use Rattle.std.specs.FinMap.Entries.{is_sorted}
use Rattle.kfs_model.specs.Tree.{name_order}
use Rattle.kfs_maps.proofs.ChunksLemmas.Parts.{sorted_left, sorted_right}
use Rattle.kfs_image_nodes.specs.SortedRows.{name_entry, name_entries}
use Rattle.kfs_image_nodes.proofs.sorted_rows.names_of.Goals as goal

pub push-requires-clause-sorted : goal.push-requires-clause-sorted
push-requires-clause-sorted g c =
    let cmp = name_order.compare in
    let some = c.split_at.result.0.now in
    let rest = c.split_at.result.1.now in
    let whole : c.loop-left.left.now ≡ some ++ rest = c.split_at.ensures.by_index.0 in
    let left : T (is_sorted cmp (name_entries c.loop-left.left.now)) = sorted_right cmp c.loop-left.list (name_entries c.loop-left.left.now) (subst (λ es. T (is_sorted cmp es)) (sym c.loop-left.invariant) c.requires) in
    let both : name_entries c.loop-left.left.now ≡ name_entries some ++ name_entries rest = ap name_entries whole ∙ map-append name_entry some rest in
    subst (λ es. T (is_sorted cmp es)) (sym c.in_ok-entries_of.ensures) (sorted_left cmp (name_entries some) (name_entries rest) (subst (λ es. T (is_sorted cmp es)) both left))
