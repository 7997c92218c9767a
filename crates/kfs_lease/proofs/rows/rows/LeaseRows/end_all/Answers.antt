use Rattle.std.proofs.Common.{◌≡◌, Ok, Err, sym, ap, subst, ◌∙◌}
use Rattle.std.specs.Prelude.{OnOk}
use Rattle.kfs_maps.specs.Chunks.Tables.{table_after}
use Rattle.kfs_maps.proofs.ChunksLemmas.Overlays.{table_after_said}
use Rattle.kfs_lease.specs.Rows.Ending.{rows_left}
use Rattle.kfs_lease.specs.Rows.Rows.{row_table, end_table, client_table, AreEndsOf, AreKeysOf, RowTable, EndTable, ClientTable}
use Rattle.kfs_lease.proofs.rows.rows.LeaseRows.end_all.Goals as goal

pub change-requires-clause-exact : goal.change-requires-clause-exact
change-requires-clause-exact g c =
    let rows = c.args.self.now in
    let ending = c.args.ending.now in
    let row_edits = c.in_ok-rows.rows.items in
    let end_edits = c.in_ok-ends.ends.items in
    let rows_said = table_after_said (row_table rows) row_edits ending.rows.latest c.in_ok-rows.ensures.said in
    let ends_said = table_after_said (end_table rows) end_edits ending.ends.latest c.in_ok-ends.ensures.said in
    subst (λ es. AreEndsOf (table_after (row_table rows) es) (table_after (end_table rows) c.as_slice-2.result.now)) (sym c.as_slice.ensures.value)
    (subst (λ es. AreEndsOf (table_after (row_table rows) row_edits) (table_after (end_table rows) es)) (sym c.as_slice-2.ensures.value)
    (subst (λ (t : RowTable). AreEndsOf t (table_after (end_table rows) end_edits)) (sym rows_said)
    (subst (λ (t : EndTable). AreEndsOf (rows_left rows ending) t) (sym ends_said) c.requires.listed.exact)))

pub change-requires-clause-keys : goal.change-requires-clause-keys
change-requires-clause-keys g c =
    let rows = c.args.self.now in
    let ending = c.args.ending.now in
    let row_edits = c.in_ok-rows.rows.items in
    let key_edits = c.in_ok-of_clients.of_clients.items in
    let rows_said = table_after_said (row_table rows) row_edits ending.rows.latest c.in_ok-rows.ensures.said in
    let keys_said = table_after_said (client_table rows) key_edits ending.of_clients.latest c.in_ok-of_clients.ensures.said in
    subst (λ es. AreKeysOf (table_after (row_table rows) es) (table_after (client_table rows) c.as_slice-3.result.now)) (sym c.as_slice.ensures.value)
    (subst (λ es. AreKeysOf (table_after (row_table rows) row_edits) (table_after (client_table rows) es)) (sym c.as_slice-3.ensures.value)
    (subst (λ (t : RowTable). AreKeysOf t (table_after (client_table rows) key_edits)) (sym rows_said)
    (subst (λ (t : ClientTable). AreKeysOf (rows_left rows ending) t) (sym keys_said) c.requires.listed.clients)))

pub returns-clause-rows : goal.returns-clause-rows
returns-clause-rows g c =
    let rows = c.args.self.now in
    let ending = c.args.ending.now in
    let rows_said = table_after_said (row_table rows) c.in_ok-rows.rows.items ending.rows.latest c.in_ok-rows.ensures.said in
    elim c.change.result as (λ r. OnOk r (row_table c.change.new.self ≡ table_after (row_table rows) c.as_slice.result.now) → OnOk r (row_table c.change.new.self ≡ rows_left rows ending)) [
      | Ok done ↦ λ made. made ∙ ap (table_after (row_table rows)) c.as_slice.ensures.value ∙ rows_said
      | Err e ↦ λ none. none
    ] c.change.ensures.rows
