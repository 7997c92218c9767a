use Rattle.std.proofs.Common.{Some, None, sym, ap, subst, arith}
use Rattle.kfs_model.specs.Table.{changed}
use Rattle.kfs_maps.specs.declared.chunks.entries.KeyEdit.{KeyEdit}
use Rattle.kfs_maps.specs.Chunks.Tables.{table_after}
use Rattle.kfs_lease.specs.declared.rows.rows.RowEnd.{RowEnd}
use Rattle.kfs_lease.specs.Rows.Rows.{row_end, row_table, end_table, client_table, AreEndsOf}
use Rattle.kfs_lease.proofs.RowsLemmas.Edits.{ends_ascend}
use Rattle.kfs_lease.proofs.RowsLemmas.RowSteps.{exact_moved, exact_moved_back, exact_same, keys_same}
use Rattle.kfs_lease.proofs.rows.rows.LeaseRows.replace.Goals as goal

abbrev EndEdit : Type 0
EndEdit = KeyEdit RowEnd (Unit {0})

pub change_row-requires-clause-ends : goal.change_row-requires-clause-ends
change_row-requires-clause-ends g c =
    ends_ascend c.unlisted.result c.listed.result c.args.old.end c.args.new.end c.args.key (ap (λ (e : EndEdit). e.key) c.unlisted.ensures) (ap (λ (e : EndEdit). e.key) c.listed.ensures) c.if-old-new.true

pub change_row-requires-clause-exact : goal.change_row-requires-clause-exact
unfolding table_after
change_row-requires-clause-exact g c =
    let rows = row_table c.args.self.now in
    let ends = end_table c.args.self.now in
    let key = c.args.key in
    subst (λ (e : EndEdit). AreEndsOf (changed rows key (Some c.args.new)) (changed (changed ends e.key e.value) c.listed.result.key c.listed.result.value)) (sym c.unlisted.ensures)
    (subst (λ (e : EndEdit). AreEndsOf (changed rows key (Some c.args.new)) (changed (changed ends (row_end c.args.old.end key) None) e.key e.value)) (sym c.listed.ensures)
    (exact_moved rows ends c.requires.indexed.ends key c.args.old c.args.new c.requires.there))

pub change_row-requires-clause-keys : goal.change_row-requires-clause-keys
unfolding table_after
change_row-requires-clause-keys g c = keys_same (row_table c.args.self.now) (client_table c.args.self.now) c.requires.indexed.clients c.args.key c.args.old c.args.new c.requires.there

pub change_row-requires-then-new-old-clause-ends : goal.change_row-requires-then-new-old-clause-ends
change_row-requires-then-new-old-clause-ends g c =
    ends_ascend c.listed-then-new-old.result c.unlisted-then-new-old.result c.args.new.end c.args.old.end c.args.key (ap (λ (e : EndEdit). e.key) c.listed-then-new-old.ensures) (ap (λ (e : EndEdit). e.key) c.unlisted-then-new-old.ensures) c.if-new-old.true

pub change_row-requires-then-new-old-clause-exact : goal.change_row-requires-then-new-old-clause-exact
unfolding table_after
change_row-requires-then-new-old-clause-exact g c =
    let rows = row_table c.args.self.now in
    let ends = end_table c.args.self.now in
    let key = c.args.key in
    subst (λ (e : EndEdit). AreEndsOf (changed rows key (Some c.args.new)) (changed (changed ends e.key e.value) c.unlisted-then-new-old.result.key c.unlisted-then-new-old.result.value)) (sym c.listed-then-new-old.ensures)
    (subst (λ (e : EndEdit). AreEndsOf (changed rows key (Some c.args.new)) (changed (changed ends (row_end c.args.new.end key) (Some tt)) e.key e.value)) (sym c.unlisted-then-new-old.ensures)
    (exact_moved_back rows ends c.requires.indexed.ends key c.args.old c.args.new c.requires.there c.if-new-old.true))

pub change_row-requires-then-new-old-clause-keys : goal.change_row-requires-then-new-old-clause-keys
unfolding table_after
change_row-requires-then-new-old-clause-keys g c = keys_same (row_table c.args.self.now) (client_table c.args.self.now) c.requires.indexed.clients c.args.key c.args.old c.args.new c.requires.there

pub change_row-requires-2-clause-keys : goal.change_row-requires-2-clause-keys
unfolding table_after
change_row-requires-2-clause-keys g c = keys_same (row_table c.args.self.now) (client_table c.args.self.now) c.requires.indexed.clients c.args.key c.args.old c.args.new c.requires.there

pub change_row-requires-2-clause-exact : goal.change_row-requires-2-clause-exact
unfolding table_after
change_row-requires-2-clause-exact g c =
    exact_same (row_table c.args.self.now) (end_table c.args.self.now) c.requires.indexed.ends c.args.key c.args.old c.args.new c.requires.there (omega (arith, c.if-old-new.false, c.if-new-old.false))

pub returns-then-old-new-clause-table : goal.returns-then-old-new-clause-table
unfolding changed
returns-then-old-new-clause-table g c = c.change_row.ensures.table

pub returns-then-new-old-clause-table : goal.returns-then-new-old-clause-table
unfolding changed
returns-then-new-old-clause-table g c = c.change_row-then-new-old.ensures.table

pub returns-clause-table : goal.returns-clause-table
unfolding changed
returns-clause-table g c = c.change_row-2.ensures.table
