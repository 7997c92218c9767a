use Rattle.std.proofs.Common.{[], refl, sym, ap, subst}
use Rattle.kfs_model.specs.Table.{get}
use Rattle.kfs_maps.specs.Chunks.Tables.{table}
use Rattle.kfs_lease.specs.Rows.Rows.{by_node, by_end, by_client, table_of, shown, AreEndsOf, AreKeysOf}
use Rattle.kfs_lease.proofs.rows.rows.LeaseRows.empty.Goals as goal

pub returns-clause-table : goal.returns-clause-table
unfolding table table_of
returns-clause-table g c = ap (λ rows. shown (table by_node rows)) c.new.ensures

pub returns-clause-indexed : goal.returns-clause-indexed
unfolding table get
returns-clause-indexed g c = record {
  ends =
      subst (λ rows. AreEndsOf (table by_node rows) (table by_end c.new-2.result)) (sym c.new.ensures)
      (subst (λ ends. AreEndsOf (table by_node []) (table by_end ends)) (sym c.new-2.ensures) (λ end key. refl));
  clients =
      subst (λ rows. AreKeysOf (table by_node rows) (table by_client c.new-3.result)) (sym c.new.ensures)
      (subst (λ keys. AreKeysOf (table by_node []) (table by_client keys)) (sym c.new-3.ensures) (λ key. refl));
}
