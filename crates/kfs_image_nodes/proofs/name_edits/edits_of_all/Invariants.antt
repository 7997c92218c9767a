use Rattle.std.proofs.Common.{◌≡◌, drop}
use Rattle.kfs_model.specs.Tree.{name_order}
use Rattle.kfs_maps.specs.Chunks.Tables.{table}
use Rattle.kfs_image_nodes.specs.Change.{renamed}
use Rattle.kfs_image_nodes.specs.Indexes.{AreNames}
use Rattle.kfs_image_nodes.specs.Lent.{rows_in}
use Rattle.kfs_image_nodes.specs.NameEdits.{names_seen, IsCountedOver}
use Rattle.kfs_image_nodes.proofs.name_edits.edits_of_all.Given as goal

-- names are names, the counts fit, and the rows that are left make of the names seen what all rows make of the names
abbrev pub invariant-loop-index : goal.invariant-loop-index
invariant-loop-index g l = record {
  named : AreNames (table name_order l.names) → AreNames (names_seen l.overlays l.names);
  counted : IsCountedOver l.names l.counts l.uplinks l.overlays;
  names : renamed (names_seen l.overlays l.names) (drop l.index (rows_in l.rows)) ≡ renamed (table name_order l.names) (rows_in l.rows);
}
