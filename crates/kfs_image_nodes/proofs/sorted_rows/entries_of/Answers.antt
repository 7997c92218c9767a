use Rattle.std.proofs.Common.{◌≡◌, ◌+◌, ◌++◌, [], ◌∷◌, drop, sym, ap, ◌∙◌}
use Rattle.kfs_maps.proofs.ChunksLemmas.InOrder.{one_made, all_made}
use Rattle.kfs_image_nodes.specs.SortedRows.{name_entry, name_entries}
use Rattle.kfs_image_nodes.proofs.NodeEdits.{rows_left}
use Rattle.kfs_image_nodes.proofs.sorted_rows.entries_of.Goals as goal

pub loop-row-init : goal.loop-row-init
loop-row-init g c = ap (λ made. made ++ name_entries c.args.rows.now) c.in_ok-made.ensures.items

pub loop-row-preserved : goal.loop-row-preserved
loop-row-preserved g c =
    let rows = c.args.rows.now in
    let i = c.loop-row.row-index in
    let row = c.row-item.result in
    let next : drop i rows ≡ row ∷ drop (i + 1) rows = rows_left rows i _ c.loop-row-test.true ∙ sym (ap (λ r. r ∷ drop (i + 1) rows) c.row-item.is) in
    one_made name_entry rows i row c.loop-row.made.items c.push.new.self.items _ next
    (c.in_ok-push.ensures.items ∙ ap (λ key. c.loop-row.made.items ++ (key, row.number) ∷ []) c.name_key.ensures.key)
    c.loop-row.invariant

pub returns : goal.returns
returns g c = all_made name_entry c.args.rows.now c.loop-row.row-index c.loop-row.made.items _ c.loop-row-test.false c.loop-row.invariant
