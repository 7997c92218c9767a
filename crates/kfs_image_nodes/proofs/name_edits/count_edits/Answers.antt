use Rattle.std.proofs.Common.{sym, subst, ◌∙◌}
use Rattle.std.specs.Prelude.{IfSome}
use Rattle.kfs_model.specs.Tree.{name_order}
use Rattle.kfs_maps.specs.Chunks.Tables.{table, table_after}
use Rattle.kfs_maps.proofs.ChunksLemmas.Tables.{get-table}
use Rattle.kfs_image_nodes.specs.Indexes.{IsCounted, by_node}
use Rattle.kfs_image_nodes.specs.NameEdits.{counts_seen, AreMovedBy}
use Rattle.kfs_image_nodes.proofs.Indexes.{counted_name}
use Rattle.kfs_image_nodes.proofs.NameEdits.{counted_edits, edited_seen}
use Rattle.kfs_image_nodes.proofs.OneEdit.{counted_once}
use Rattle.kfs_image_nodes.proofs.name_edits.count_edits.Goals as goal

pub edits_of_one-requires-clause-counts : goal.edits_of_one-requires-clause-counts
edits_of_one-requires-clause-counts g c = λ n is.
    let key = c.edit-item.result.key in
    let names = c.args.names.now in
    (counted_name (table name_order names) c.args.counts.now (table by_node c.args.uplinks.now) c.requires.counted key.0 key.1 n (get-table name_order names key ∙ sym (c.copied-from.ensures ∙ c.get_near.ensures) ∙ is)).0

pub edits_of_one-requires-clause-uplinks : goal.edits_of_one-requires-clause-uplinks
edits_of_one-requires-clause-uplinks g c = λ n is.
    let key = c.edit-item.result.key in
    let names = c.args.names.now in
    (counted_name (table name_order names) c.args.counts.now (table by_node c.args.uplinks.now) c.requires.counted key.0 key.1 n (get-table name_order names key ∙ sym (c.copied-from.ensures ∙ c.get_near.ensures) ∙ is)).1

pub returns-in-Some : goal.returns-in-Some
returns-in-Some g c =
    let e = c.edit-item.result in
    counted_once c.args.names.now c.args.counts.now c.args.uplinks.now c.args.edits.now e c.copied-from.result c.in-Some.made c.requires.counted c.in-len1.len_at_least c.in-len1.len_below c.edit-item.is
    (c.copied-from.ensures ∙ c.get_near.ensures)
    (subst (λ made. IfSome made (AreMovedBy c.args.counts.now c.args.uplinks.now e.key.0 c.copied-from.result e.value)) c.in-Some.is c.in_ok-made.ensures)

pub returns : goal.returns
returns g c =
    let before = table name_order c.args.names.now in
    let tallies = c.in_ok-tallies.tallies in
    let uplinks = c.in_ok-key_edits.field-0.items in
    let ways = edited_seen by_node c.args.uplinks.now uplinks tallies.uplinks.latest c.in_ok-key_edits.ensures.said in
    record {
      counts_ascend = c.in_ok-number_edits.ensures.edits;
      uplinks_ascend = c.in_ok-key_edits.ensures.ascend;
      counted = λ within within_now.
          counted_edits before c.args.counts.now (table by_node c.args.uplinks.now) c.requires.counted _ _ tallies.counts.latest
          (subst (IsCounted (table_after before c.args.edits.now) (counts_seen tallies c.args.counts.now)) (sym ways) c.in_ok-tallies.ensures)
          c.in_ok-number_edits.field-0.items c.in_ok-number_edits.ensures.edits c.in_ok-number_edits.ensures.said within within_now;
    }
