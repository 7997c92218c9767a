use Rattle.std.proofs.Common.{◌≡◌, sym, ap, subst, ◌∙◌}
use Rattle.std.specs.Prelude.{IfSome}
use Rattle.kfs_model.specs.Tree.{NameTable, name_order}
use Rattle.kfs_maps.specs.Pages.Edits as numbered
use Rattle.kfs_maps.specs.Chunks.Edits.{rewritten}
use Rattle.kfs_maps.specs.Chunks.Tables.{table, table_after}
use Rattle.kfs_maps.proofs.ChunksLemmas.Tables.{table-rewritten}
use Rattle.kfs_image_nodes.specs.Indexes.{AreInPages, AreNames, IsCounted, by_node}
use Rattle.kfs_image_nodes.specs.Lent.{rows_in}
use Rattle.kfs_image_nodes.specs.NameEdits.{AreCountEdits, AreRowsInOrder}
use Rattle.kfs_image_nodes.proofs.InOrder.{edits_rename, edits_of_names}
use Rattle.kfs_image_nodes.proofs.name_edits.name_edits.Goals as goal

pub returns : goal.returns
returns g c =
    let before = table name_order c.args.names.now in
    let edits = c.in-Some.edits.items in
    let order : AreRowsInOrder (rows_in c.args.rows) edits = subst (λ made. IfSome made (λ edits. AreRowsInOrder (rows_in c.args.rows) edits.items)) c.in-Some.is c.in_ok-edits.ensures in
    let counts = c.in_ok-counts.field-0.counts.items in
    let uplinks = c.in_ok-counts.field-0.uplinks.items in
    let made : AreCountEdits c.args.names.now c.args.counts.now c.args.uplinks.now edits c.in_ok-counts.field-0 =
    subst (λ es. AreCountEdits c.args.names.now c.args.counts.now c.args.uplinks.now es c.in_ok-counts.field-0) c.deref.ensures.value c.in_ok-counts.ensures in
    let names : table name_order (rewritten name_order c.args.names.now edits) ≡ table_after before edits = table-rewritten name_order c.args.names.now edits in
    record {
      names_ascend = order.ascend;
      counts_ascend = made.counts_ascend;
      uplinks_ascend = made.uplinks_ascend;
      make = names ∙ ap (table_after before) order.made ∙ edits_rename before (rows_in c.args.rows);
      named = λ all. subst (λ (t : NameTable). AreNames t) (sym names) (edits_of_names before edits all order.named);
      counted = λ within within_now.
          subst (λ (t : NameTable). IsCounted t (numbered.rewritten c.args.counts.now counts) (table by_node (rewritten by_node c.args.uplinks.now uplinks))) (sym names)
          (made.counted within (subst (λ (t : NameTable). AreInPages t) names within_now));
    }
