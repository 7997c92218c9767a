-- The tables after the edits of their names: the counts beside the names are still those of the names.
use Rattle.std.proofs.Common.{◌≡◌, ℕ, sym, ap, subst}
use Rattle.kfs_model.specs.Table.{Table, numbers}
use Rattle.kfs_model.specs.Tree.{NameTable, name_order}
use Rattle.kfs_maps.specs.Chunks.Tables.{table}
use Rattle.kfs_image_nodes.specs.declared.name_edits.NameEdits.{NameEdits}
use Rattle.kfs_image_nodes.specs.declared.rows.NodeTables.{NodeTables}
use Rattle.kfs_image_nodes.specs.Indexes.{by_node, AreNames, IsCounted}
use Rattle.kfs_image_nodes.specs.NameEdits.{names_edited, counts_edited, ways_edited}
use Rattle.kfs_image_nodes.specs.Rows.{names_in, CountsAreExact}
use Rattle.kfs_maps.specs.Chunks.Edits.{rewritten}
use Rattle.kfs_maps.specs.Pages.Edits as numbered

module _ {A : Type 0} where
  pub edited_indexed : (old new : NodeTables A) (edits : NameEdits A) → CountsAreExact old
      → (AreNames (names_in old) → AreNames (names_edited old.names edits))
      → IsCounted (names_edited old.names edits) (counts_edited old.counts edits) (ways_edited old.uplinks edits)
      → new.names ≡ rewritten name_order old.names edits.names.items
      → new.counts ≡ numbered.rewritten old.counts edits.counts.items
      → new.uplinks ≡ rewritten by_node old.uplinks edits.uplinks.items
      → CountsAreExact new
  edited_indexed old new edits indexed named counted names counts uplinks =
      let names_are = ap (table name_order) names in
      let ways_are = ap (table by_node) uplinks in
      record {
        names = subst (λ (t : NameTable). AreNames t) (sym names_are) (named indexed.names);
        counted =
            subst (λ (t : NameTable). IsCounted t new.counts (table by_node new.uplinks)) (sym names_are)
            (subst (λ (t : Table numbers ℕ). IsCounted (names_edited old.names edits) t (table by_node new.uplinks)) (sym counts)
            (subst (IsCounted (names_edited old.names edits) (counts_edited old.counts edits)) (sym ways_are) counted));
      }
