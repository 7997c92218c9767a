use Rattle.std.proofs.Common.{ℕ, ◌+◌, List, drop, sym, ap, subst, ◌∙◌, arith}
use Rattle.std.proofs.lemmas.List.{at_drop_all}
use Rattle.kfs_model.specs.Table.{changed}
use Rattle.kfs_model.specs.Tree.{NameTable, name_order}
use Rattle.kfs_maps.specs.Chunks.Edits.{rewritten}
use Rattle.kfs_maps.specs.Chunks.Tables.{table}
use Rattle.kfs_maps.specs.declared.chunks.entries.KeyEdit.{KeyEdit}
use Rattle.kfs_image_nodes.specs.Change.{renamed}
use Rattle.kfs_image_nodes.specs.Indexes.{AreNames, IsCounted, by_node}
use Rattle.kfs_image_nodes.specs.Lent.{rows_in}
use Rattle.kfs_image_nodes.specs.NameEdits.{names_seen, counts_seen}
use Rattle.kfs_image_nodes.proofs.NameEdits.{edited_seen, counted_edits}
use Rattle.kfs_maps.proofs.ChunksLemmas.Overlays.{overlaid_none}
use Rattle.kfs_image_nodes.proofs.name_edits.edits_of_all.Goals as goal

pub loop-index-init : goal.loop-index-init
loop-index-init g c =
    let overlays = c.in_ok-overlays.overlays in
    let names = overlaid_none (table name_order c.args.names.now) overlays.names.latest.entries c.in_ok-overlays.ensures.names in
    let counts = overlaid_none c.args.counts.now overlays.tallies.counts.latest.entries c.in_ok-overlays.ensures.counts in
    let ways = overlaid_none (table by_node c.args.uplinks.now) overlays.tallies.uplinks.latest.entries c.in_ok-overlays.ensures.uplinks in
    record {
      named = subst (λ (t : NameTable). AreNames t) (sym names);
      counted = rw (names, counts, ways) c.requires;
      names = ap (λ (t : NameTable). renamed t (rows_in c.args.rows)) names;
    }

pub loop-index-preserved : goal.loop-index-preserved
loop-index-preserved g c =
    let rows = rows_in c.args.rows in
    let left = drop (c.loop-index.index + 1) rows in
    let names = names_seen c.loop-index.overlays c.args.names.now in
    let at = c.edit.ensures.edit in
    record {
      named = λ all. c.in_ok-rename.ensures.named (c.loop-index.invariant.named all);
      counted = c.in_ok-rename.ensures.counted;
      names =
          ap (λ (t : NameTable). renamed t left) c.in_ok-rename.ensures.names
          ∙ ap (λ (edit : KeyEdit (ℕ × List ℕ) ℕ). renamed (changed names edit.key edit.value) left) at.is
          ∙ ap (renamed names) (sym at.next)
          ∙ c.loop-index.invariant.names;
    }

pub returns : goal.returns
returns g c =
    let overlays = c.loop-index.overlays in
    let edited_names = c.in_ok-key_edits.field-0.items in
    let edited_counts = c.in_ok-number_edits.field-0.items in
    let edited_ways = c.in_ok-key_edits-2.field-0.items in
    let names = edited_seen name_order c.args.names.now edited_names overlays.names.latest c.in_ok-key_edits.ensures.said in
    let ways = edited_seen by_node c.args.uplinks.now edited_ways overlays.tallies.uplinks.latest c.in_ok-key_edits-2.ensures.said in
    record {
      names_ascend = c.in_ok-key_edits.ensures.ascend;
      counts_ascend = c.in_ok-number_edits.ensures.edits;
      uplinks_ascend = c.in_ok-key_edits-2.ensures.ascend;
      make = names ∙ sym (at_drop_all (renamed (names_seen overlays c.args.names.now)) (rows_in c.args.rows) c.loop-index.index (omega (arith, c.loop-index-test.false, c.len-index-end.ensures))) ∙ c.loop-index.invariant.names;
      named = λ all. subst (λ (t : NameTable). AreNames t) (sym names) (c.loop-index.invariant.named all);
      counted = λ within within_now.
          counted_edits (table name_order c.args.names.now) c.args.counts.now (table by_node c.args.uplinks.now) c.requires _ _ overlays.tallies.counts.latest
          (subst (λ (t : NameTable). IsCounted t (counts_seen overlays.tallies c.args.counts.now) (table by_node (rewritten by_node c.args.uplinks.now edited_ways))) (sym names)
          (subst (IsCounted (names_seen overlays c.args.names.now) (counts_seen overlays.tallies c.args.counts.now)) (sym ways) c.loop-index.invariant.counted))
          edited_counts c.in_ok-number_edits.ensures.edits c.in_ok-number_edits.ensures.said within within_now;
    }
