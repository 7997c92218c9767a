use Rattle.std.proofs.Common.{take, sym, ap, subst, ◌∙◌}
use Rattle.std.proofs.lemmas.List.{take_all}
use Rattle.kfs_model.specs.Tree.{NameTable, name_order}
use Rattle.kfs_maps.specs.Chunks.Tables.{table, table_after}
use Rattle.kfs_maps.proofs.ChunksLemmas.Overlays.{overlaid_none}
use Rattle.kfs_image_nodes.specs.Indexes.{IsCounted, by_node}
use Rattle.kfs_image_nodes.specs.NameEdits.{counts_seen, ways_seen}
use Rattle.kfs_image_nodes.proofs.Indexes.{counted_name, counted_moved}
use Rattle.kfs_image_nodes.proofs.InOrder.{found_before_edit, edited_next, table_after_none}
use Rattle.kfs_image_nodes.proofs.name_edits.recounted.Goals as goal

pub loop-edit-init : goal.loop-edit-init
loop-edit-init g c =
    let tallies = c.in_ok-tallies.tallies in
    let names = table_after_none name_order (table name_order c.args.names.now) in
    let counts = overlaid_none c.args.counts.now tallies.counts.latest.entries c.in_ok-tallies.ensures.counts in
    let ways = overlaid_none (table by_node c.args.uplinks.now) tallies.uplinks.latest.entries c.in_ok-tallies.ensures.uplinks in
    rw (names, counts, ways) c.requires.counted

pub recount-requires-clause-counts : goal.recount-requires-clause-counts
recount-requires-clause-counts g c = λ n is.
    let e = c.edit-item.result in
    let names = table_after (table name_order c.args.names.now) (take c.loop-edit.edit-index c.args.edits.now) in
    let from = c.target-from.ensures ∙ found_before_edit c.args.names.now c.args.edits.now c.loop-edit.edit-index e c.requires.ascend c.loop-edit-test.true c.edit-item.is in
    (counted_name names _ _ c.loop-edit.invariant e.key.0 e.key.1 n (sym from ∙ is)).0

pub recount-requires-clause-uplinks : goal.recount-requires-clause-uplinks
recount-requires-clause-uplinks g c = λ n is.
    let e = c.edit-item.result in
    let names = table_after (table name_order c.args.names.now) (take c.loop-edit.edit-index c.args.edits.now) in
    let from = c.target-from.ensures ∙ found_before_edit c.args.names.now c.args.edits.now c.loop-edit.edit-index e c.requires.ascend c.loop-edit-test.true c.edit-item.is in
    (counted_name names _ _ c.loop-edit.invariant e.key.0 e.key.1 n (sym from ∙ is)).1

pub loop-edit-preserved : goal.loop-edit-preserved
loop-edit-preserved g c =
    let e = c.edit-item.result in
    let i = c.loop-edit.edit-index in
    let before = table name_order c.args.names.now in
    let names = table_after before (take i c.args.edits.now) in
    let from = c.target-from.ensures ∙ found_before_edit c.args.names.now c.args.edits.now i e c.requires.ascend c.loop-edit-test.true c.edit-item.is in
    let made = c.in_ok-recount.ensures in
    let counts = counts_seen c.recount.new.self c.args.counts.now in
    let ways = ways_seen c.recount.new.self c.args.uplinks.now in
    subst (λ (t : NameTable). IsCounted t counts ways) (edited_next before c.args.edits.now i e c.loop-edit-test.true c.edit-item.is)
    (counted_moved names _ counts _ ways c.loop-edit.invariant e.key c.target-from.result e.value from made.counts made.uplinks made.positive)

pub returns : goal.returns
returns g c =
    subst (λ (t : NameTable). IsCounted t (counts_seen c.loop-edit.tallies c.args.counts.now) (ways_seen c.loop-edit.tallies c.args.uplinks.now))
    (ap (table_after (table name_order c.args.names.now)) (take_all c.loop-edit.edit-index c.args.edits.now c.loop-edit-test.false)) c.loop-edit.invariant
